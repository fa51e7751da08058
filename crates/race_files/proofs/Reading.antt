-- What all lines call, by the first of them; and lines that are left.
use Rattle.std.proofs.Common.{Err, List, None, Ok, Option, Result, Some, [], ap, append_assoc, inl, inr, refl, suc, sym, zero, ℕ, ◌++◌, ◌∙◌, ◌∷◌, ◌≡◌}
use Rattle.std.{proofs.Common.◌⊎◌, specs.Result.{OnOk, result_and}}
use Rattle.schedule_lines.specs.declared.faults.Fault.{Fault}
use Rattle.race_files.specs.{Calls.{TaskCalls, calls_after, calls_of, ended, no_calls}, Faults.IsToldOrMemory, FirstFaults.{AreCalled, FailsInCalls}}
use Rattle.race_files.specs.{FirstFaults.{IsMemory, calls_with_next}, Left.{AreLeftOf, BeginRace, Left, after_lines, behind, none_left}}
use Rattle.race_files.specs.declared.faults.RaceFault.{RaceFault, TheVariants.Schedule}

-- behind a line after which this is called
abbrev pub behind_call : ℕ → Option Fault → List (List ℕ) → Result (List TaskCalls) RaceFault → Result (List TaskCalls) RaceFault
behind_call tasks end others after = elim after [
  | Ok more ↦ calls_of tasks end others more
  | Err fault ↦ Err fault
]

-- at a line
pub at_line : (tasks known : ℕ) (left : Left) (line : List ℕ) (calls : List TaskCalls) (after : Result (List TaskCalls) RaceFault) → known ≡ tasks →
    left.lines ≡ line ∷ (behind left).lines → calls_after known calls line ≡ after →
    calls_of tasks left.fault left.lines calls ≡ behind_call tasks left.fault (behind left).lines after
unfolding calls_of
at_line tasks known left line calls after same first e =
    ap (λ (lines : List (List ℕ)). calls_of tasks left.fault lines calls) first
    ∙ ap (behind_call tasks left.fault (behind left).lines) (sym (ap (λ (n : ℕ). calls_after n calls line) same) ∙ e)

-- no line behind `race` yet
pub none_called : (tasks : ℕ) (all : Left) (calls : List TaskCalls) → calls ≡ no_calls tasks → AreCalled tasks all all calls
unfolding calls_of
none_called tasks all calls e = record { before = []; lines = refl; end = refl; called = ap Ok (sym e) }

-- one more
called_behind : (tasks : ℕ) (before : List (List ℕ)) (from calls more : List TaskCalls) (line : List ℕ) → calls_of tasks None before from ≡ Ok calls →
    calls_after tasks calls line ≡ Ok more → calls_of tasks None (before ++ line ∷ []) from ≡ Ok more
unfolding calls_of
called_behind tasks [] from calls more line is after =
    let same : from ≡ calls = cc in
    ap (behind_call tasks None []) (ap (λ (c : List TaskCalls). calls_after tasks c line) same ∙ after)
called_behind tasks (first ∷ others) from calls more line is after =
    by (λ (c : List TaskCalls) (e : calls_of tasks None others c ≡ Ok calls). called_behind tasks others c calls more line e after)
    (calls_after tasks from first) is
  where
    by : ((c : List TaskCalls) → calls_of tasks None others c ≡ Ok calls → calls_of tasks None (others ++ line ∷ []) c ≡ Ok more) →
        (r : Result (List TaskCalls) RaceFault) → behind_call tasks None others r ≡ Ok calls → behind_call tasks None (others ++ line ∷ []) r ≡ Ok more
    by next (Ok c) e = next c e
    by next (Err fault) e = cc

pub one_called : (tasks known : ℕ) (all left now : Left) (calls more : List TaskCalls) (line : List ℕ) → AreCalled tasks all left calls → known ≡ tasks →
    left.lines ≡ line ∷ (behind left).lines → now ≡ behind left → calls_after known calls line ≡ Ok more → AreCalled tasks all now more
one_called tasks known all left now calls more line so_far same first rest after = record {
  before = so_far.before ++ line ∷ [];
  lines = so_far.lines ∙ (ap (λ (l : List (List ℕ)). so_far.before ++ l) (first ∙ ap (λ (x : Left). line ∷ x.lines) (sym rest)) ∙
      sym (append_assoc so_far.before (line ∷ []) now.lines));
  end = ap (λ (x : Left). x.fault) rest ∙ so_far.end;
  called = called_behind tasks so_far.before (no_calls tasks) calls more line so_far.called (sym (ap (λ (n : ℕ). calls_after n calls line) same) ∙ after);
}

-- the next line's fault is the first
pub line_fails : (tasks known : ℕ) (all left : Left) (calls : List TaskCalls) (line : List ℕ) (fault : RaceFault) → AreCalled tasks all left calls →
    known ≡ tasks → left.lines ≡ line ∷ (behind left).lines → IsToldOrMemory (calls_after known calls line) fault →
    FailsInCalls tasks all left fault ⊎ IsMemory fault
line_fails tasks known all left calls line fault so_far same first (inl memory) = inr memory
line_fails tasks known all left calls line fault so_far same first (inr told) = inl record {
  calls = calls;
  before = so_far;
  fails = ap (λ (lines : List (List ℕ)). calls_with_next tasks left.fault lines calls) first ∙
      (sym (ap (λ (n : ℕ). calls_after n calls line) same) ∙ told);
}

-- or that of what stands behind the last
pub end_fails : (tasks : ℕ) (all left : Left) (calls : List TaskCalls) (end : Fault) → AreCalled tasks all left calls →
    left ≡ none_left (Some end) → FailsInCalls tasks all left (Schedule end)
end_fails tasks all left calls end so_far none = record {
  calls = calls;
  before = so_far;
  fails = ap (λ (x : Left). calls_with_next tasks x.fault x.lines calls) none;
}

-- behind the last line
pub at_end : (tasks : ℕ) (left : Left) (end : Option Fault) (calls : List TaskCalls) → left ≡ none_left end →
    calls_of tasks left.fault left.lines calls ≡ ended end calls
unfolding calls_of
at_end tasks left end calls e = ap (λ (x : Left). calls_of tasks x.fault x.lines calls) e

-- all are left
pub all_left : (all : Left) → AreLeftOf all all
unfolding after_lines
all_left all = (zero, refl)

-- one line less
pub one_less : (all left now : Left) → AreLeftOf all left → now ≡ behind left → AreLeftOf all now
unfolding after_lines
one_less all left now h e = (suc h.0, e ∙ ap behind h.1)

-- some lines less
pub some_less : (all left now : Left) (n : ℕ) → AreLeftOf all left → now ≡ after_lines n left → AreLeftOf all now
unfolding after_lines
some_less all left now zero h e = (h.0, e ∙ h.1)
some_less all left now (suc n) h e = one_less all (after_lines n left) now (some_less all left (after_lines n left) n h refl) e

-- what begins behind some lines
pub begins_behind : (all left now : Left) → AreLeftOf all left → BeginRace left now → BeginRace all now
begins_behind all left now h begin = record {
  after = some_less all left now begin.after.0 h begin.after.1;
  line = begin.line;
  first = begin.first;
  race = begin.race;
}

-- what is known of an answer, of another that is given in its place
pub and_told : {T U E : Type 0} (r : Result T E) (s : Result U E) (P Q : Type 0) → (P → Q) → OnOk r P → OnOk (result_and r s) Q
and_told (Ok x) (Ok y) P Q f h = f h
and_told (Ok x) (Err e) P Q f h = tt
and_told (Err e) s P Q f h = tt
