-- A line by which a task begins a call.
use Rattle.std.proofs.Common.{Bool, Err, List, Ok, Option, Result, Some, ap, false, if◌then◌else◌, inl, inr, is_some, length, sym, true, ℕ, ◌∙◌, ◌≡◌}
use Rattle.std.specs.Result.{OnOk}
use Rattle.histories.specs.declared.markers.Marker.TheVariants.{Begins}
use Rattle.{race_files.specs.{Left.{calls_left, lines_in}, declared.faults.RaceFault.TheVariants.UnderWay}, races.specs.declared.calls.Call.Call}
use Rattle.history_files.specs.{Faults.IsToldOrMemory, Operations.operation_lines, Records.{Reading, begun_at, row_among, row_of, with_begin}}
use Rattle.history_files.specs.{Records.with_marker, declared.faults.HistoryFault.{HistoryFault, TheVariants.Race}}

-- its operations, read in their lines
row_told : (tasks task : ℕ) (line lines : List ℕ) (row : Result (List (Option Call)) HistoryFault) → lines ≡ operation_lines line →
    row_among task (calls_left tasks (lines_in 1048576 lines)) ≡ row → row_of tasks task line ≡ row
unfolding row_of
row_told tasks task line lines row same e = ap (λ (l : List ℕ). row_among task (calls_left tasks (lines_in 1048576 l))) (sym same) ∙ e

module _ (reading : Reading) (number tasks task : ℕ) (line lines : List ℕ) (same : lines ≡ operation_lines line) where
  -- they have a fault
  pub row_fails : (fault : HistoryFault) → IsToldOrMemory (row_among task (calls_left tasks (lines_in 1048576 lines))) fault →
      IsToldOrMemory (with_begin reading number task (row_of tasks task line)) fault
  row_fails fault (inl memory) = inl memory
  row_fails fault (inr told) = inr (ap (with_begin reading number task) (row_told tasks task line lines (Err fault) same told))

  module _ (row : List (Option Call)) (read : row_among task (calls_left tasks (lines_in 1048576 lines)) ≡ Ok row) where
    -- by whether the task has a call under way
    by_begun : (begun : Bool) → is_some (begun_at reading task) ≡ begun → with_begin reading number task (row_of tasks task line) ≡
        (if begun then Err (Race UnderWay) else Ok (with_marker reading number task (Begins task row) (Some (length reading.markers))))
    by_begun begun e =
        ap (with_begin reading number task) (row_told tasks task line lines (Ok row) same read) ∙
        ap (λ (b : Bool). if b then Err (Race UnderWay) else Ok (with_marker reading number task (Begins task row) (Some (length reading.markers)))) e

    pub under_way : is_some (begun_at reading task) ≡ true → IsToldOrMemory (with_begin reading number task (row_of tasks task line)) (Race UnderWay)
    under_way e = inr (by_begun true e)

    pub begins : {T E : Type 0} (r : Result T E) (at : ℕ) (new : Reading) → is_some (begun_at reading task) ≡ false → at ≡ length reading.markers →
        OnOk r (new ≡ with_marker reading number task (Begins task row) (Some at)) → OnOk r (with_begin reading number task (row_of tasks task line) ≡ Ok new)
    begins (Ok x) at new free there is =
        by_begun false free ∙ ap (λ (n : ℕ). Ok (with_marker reading number task (Begins task row) (Some n))) (sym there) ∙ ap Ok (sym is)
    begins (Err e) at new free there is = tt
