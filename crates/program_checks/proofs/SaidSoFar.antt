-- What lines say, as they are read one by one.
use Rattle.std.proofs.{Common.{List, [], ap, drop, sym, take, true, ℕ, ◌+◌, ◌∙◌, ◌≡◌}, Math.Seq.take-add, lemmas.List.{Sums.fold-append, drop-drop}}
use Rattle.std.specs.List.{fold}
use Rattle.{race_files.specs.Left.{Left, behind}, schedule_lines.specs.declared.output.Output.Output}
use Rattle.program_checks.specs.Said.{SaysMore, said_by, says_line}

-- one more line is read
pub one_more : (all left : List (List ℕ)) (old new : Output) (n : ℕ) → (old.is_whole ≡ true → old.bytes.items ≡ said_by (take n all)) →
    left ≡ drop n all → SaysMore old new (take 1 left) → new.is_whole ≡ true → new.bytes.items ≡ said_by (take (n + 1) all)
one_more all left old new n before same more whole =
    more.said whole
    ∙ ap (λ (bytes : List ℕ). fold says_line bytes (take 1 left)) (before (more.whole whole))
    ∙ ap (λ (lines : List (List ℕ)). fold says_line (said_by (take n all)) (take 1 lines)) same
    ∙ sym (fold-append says_line [] (take n all) (take 1 (drop n all)))
    ∙ ap said_by (sym (take-add n 1 all))

-- what is left then
pub left_after : (all : List (List ℕ)) (old new : Left) (n : ℕ) → old.lines ≡ drop n all → new ≡ behind old → new.lines ≡ drop (n + 1) all
left_after all old new n same next = ap (λ (left : Left). left.lines) next ∙ ap (drop 1) same ∙ drop-drop 1 n all
