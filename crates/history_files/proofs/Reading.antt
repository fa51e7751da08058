-- What all lines record, by the first of them; and where the first fault stands.
use Rattle.std.proofs.Common.{◌≡◌, ◌∙◌, ◌⊎◌, sym, ap, refl, ℕ, ◌+◌, List, [], ◌∷◌, ◌++◌, length, append_assoc, length-append, Option, Some, None, Result, Ok, Err, inl, inr, arith}
use Rattle.race_files.specs.Left.{Left, behind, none_left}
use Rattle.race_files.specs.declared.faults.RaceFault.TheVariants.{Schedule}
use Rattle.schedule_lines.specs.declared.faults.Fault.{Fault}
use Rattle.history_files.specs.Faults.{AreRecorded, FailsInRecord, IsMemory, IsToldOrMemory, reading_with_next}
use Rattle.history_files.specs.{Records.{Reading, ended, nothing_read, reading_after, reading_of}, declared.faults.HistoryFault.{HistoryFault, TheVariants.{Race}}}

-- behind a line of this number, after which this is read
abbrev behind_line : ℕ → Option Fault → ℕ → List (List ℕ) → Result Reading HistoryFault → Result Reading HistoryFault
behind_line tasks end number others after = elim after [
  | Ok more ↦ reading_of tasks end (number + 1) others more
  | Err fault ↦ Err fault
]

-- at a line
pub at_line : (tasks known number : ℕ) (left : Left) (line : List ℕ) (reading : Reading) (after : Result Reading HistoryFault) → known ≡ tasks →
    left.lines ≡ line ∷ (behind left).lines → reading_after known reading number line ≡ after →
    reading_of tasks left.fault number left.lines reading ≡ behind_line tasks left.fault number (behind left).lines after
unfolding reading_of
at_line tasks known number left line reading after same first e =
    ap (λ (lines : List (List ℕ)). reading_of tasks left.fault number lines reading) first
    ∙ ap (behind_line tasks left.fault number (behind left).lines) (sym (ap (λ (n : ℕ). reading_after n reading number line) same) ∙ e)

-- and at the next one
pub one_read : (tasks known number next : ℕ) (left now : Left) (line : List ℕ) (reading more : Reading) → known ≡ tasks →
    left.lines ≡ line ∷ (behind left).lines → now ≡ behind left → next ≡ number + 1 → reading_after known reading number line ≡ Ok more →
    reading_of tasks left.fault number left.lines reading ≡ reading_of tasks now.fault next now.lines more
one_read tasks known number next left now line reading more same first rest is e =
    at_line tasks known number left line reading (Ok more) same first e
    ∙ ap (λ (n : ℕ). reading_of tasks left.fault n (behind left).lines more) (sym is)
    ∙ sym (ap (λ (x : Left). reading_of tasks x.fault next x.lines more) rest)

-- behind the last one
pub at_end : (tasks number : ℕ) (left : Left) (end : Option Fault) (reading : Reading) → left ≡ none_left end →
    reading_of tasks left.fault number left.lines reading ≡ ended end reading
unfolding reading_of
at_end tasks number left end reading e = ap (λ (l : Left). reading_of tasks l.fault number l.lines reading) e

-- no line behind `history` yet
pub none_recorded : (tasks number : ℕ) (all : Left) (reading : Reading) → reading ≡ nothing_read tasks → AreRecorded tasks number all all reading
unfolding reading_of
none_recorded tasks number all reading e = record { before = []; lines = refl; end = refl; recorded = ap Ok (sym e) }

-- one more
recorded_behind : (tasks number at : ℕ) (before : List (List ℕ)) (from reading more : Reading) (line : List ℕ) →
    reading_of tasks None number before from ≡ Ok reading → at ≡ number + length before → reading_after tasks reading at line ≡ Ok more →
    reading_of tasks None number (before ++ line ∷ []) from ≡ Ok more
unfolding reading_of
recorded_behind tasks number at [] from reading more line is place after =
    let same : from ≡ reading = cc in
    let here : number ≡ at = omega (arith, place) in
    ap (behind_line tasks None number []) (ap (λ (r : Reading). reading_after tasks r number line) same ∙
    (ap (λ (n : ℕ). reading_after tasks reading n line) here ∙ after))
recorded_behind tasks number at (first ∷ others) from reading more line is place after =
    let there : at ≡ (number + 1) + length others = omega (arith, place) in
    by (λ (r : Reading) (e : reading_of tasks None (number + 1) others r ≡ Ok reading).
    recorded_behind tasks (number + 1) at others r reading more line e there after)
    (reading_after tasks from number first) is
  where
    by : ((r : Reading) → reading_of tasks None (number + 1) others r ≡ Ok reading → reading_of tasks None (number + 1) (others ++ line ∷ []) r ≡ Ok more) →
        (o : Result Reading HistoryFault) → behind_line tasks None number others o ≡ Ok reading →
        behind_line tasks None number (others ++ line ∷ []) o ≡ Ok more
    by next (Ok r) e = next r e
    by next (Err fault) e = cc

-- where the next line stands
pub number_there : (tasks number done : ℕ) (all left : Left) (reading : Reading) (so_far : AreRecorded tasks number all left reading) →
    done + length left.lines ≡ length all.lines → number + done ≡ number + length so_far.before
number_there tasks number done all left reading so_far count =
    let e : length all.lines ≡ length (so_far.before ++ left.lines) = ap length so_far.lines in
    let n = length-append so_far.before left.lines in
    omega (arith, e, n, count)

pub one_recorded : (tasks known number done : ℕ) (all left now : Left) (reading more : Reading) (line : List ℕ) → AreRecorded tasks number all left reading →
    done + length left.lines ≡ length all.lines → known ≡ tasks → left.lines ≡ line ∷ (behind left).lines → now ≡ behind left →
    reading_after known reading (number + done) line ≡ Ok more → AreRecorded tasks number all now more
one_recorded tasks known number done all left now reading more line so_far count same first rest after = record {
  before = so_far.before ++ line ∷ [];
  lines = so_far.lines ∙ (ap (λ (l : List (List ℕ)). so_far.before ++ l) (first ∙ ap (λ (x : Left). line ∷ x.lines) (sym rest)) ∙
      sym (append_assoc so_far.before (line ∷ []) now.lines));
  end = ap (λ (x : Left). x.fault) rest ∙ so_far.end;
  recorded = recorded_behind tasks number (number + done) so_far.before (nothing_read tasks) reading more line so_far.recorded
      (number_there tasks number done all left reading so_far count) (sym (ap (λ (n : ℕ). reading_after n reading (number + done) line) same) ∙ after);
}

-- the next line's fault is the first
pub line_fails : (tasks known number done : ℕ) (all left : Left) (reading : Reading) (line : List ℕ) (fault : HistoryFault) →
    AreRecorded tasks number all left reading → done + length left.lines ≡ length all.lines → known ≡ tasks → left.lines ≡ line ∷ (behind left).lines →
    IsToldOrMemory (reading_after known reading (number + done) line) fault → FailsInRecord tasks number all left fault ⊎ IsMemory fault
line_fails tasks known number done all left reading line fault so_far count same first (inl memory) = inr memory
line_fails tasks known number done all left reading line fault so_far count same first (inr told) = inl record {
  reading = reading;
  before = so_far;
  fails = ap (λ (lines : List (List ℕ)). reading_with_next tasks left.fault (number + length so_far.before) lines reading) first ∙
      (ap (λ (n : ℕ). reading_after tasks reading n line) (sym (number_there tasks number done all left reading so_far count)) ∙
      (sym (ap (λ (n : ℕ). reading_after n reading (number + done) line) same) ∙ told));
}

-- or that of what stands behind the last
pub end_fails : (tasks number : ℕ) (all left : Left) (reading : Reading) (end : Fault) → AreRecorded tasks number all left reading →
    left ≡ none_left (Some end) → FailsInRecord tasks number all left (Race (Schedule end))
end_fails tasks number all left reading end so_far none = record {
  reading = reading;
  before = so_far;
  fails = ap (λ (x : Left). reading_with_next tasks x.fault (number + length so_far.before) x.lines reading) none;
}
