-- Texts that are printed one behind the other.
use Rattle.std.proofs.{Common.{List, OnOk, Result, [], ap, append-nil, append_assoc, sym, true, ℕ, ◌++◌, ◌∙◌, ◌≡◌}, lemmas.Result.on_ok_weaker}
use Rattle.schedule_lines.specs.{Printed.Prints, declared.output.Output.Output}

-- nothing is printed
pub prints_nothing : (out : Output) → Prints out out []
prints_nothing out = record { whole = λ h. h; printed = λ h. sym (append-nil out.bytes.items) }

-- one text, and then another
pub prints_both : {old now new : Output} {first second : List ℕ} → Prints old now first → Prints now new second → Prints old new (first ++ second)
prints_both {old = old} {first = first} {second = second} a b = record {
  whole = λ h. a.whole (b.whole h);
  printed = λ h. b.printed h ∙ ap (λ (l : List ℕ). l ++ second) (a.printed (b.whole h)) ∙ append_assoc old.bytes.items first second;
}

-- the same text
pub prints_same : {old new : Output} {text other : List ℕ} → Prints old new text → text ≡ other → Prints old new other
prints_same {old = old} a same = record {
  whole = a.whole;
  printed = λ h. a.printed h ∙ ap (λ (l : List ℕ). old.bytes.items ++ l) same;
}

-- what was printed is there where there was memory for all of it
pub printed_if_whole : {E : Type 0} {old new : Output} {text : List ℕ} (r : Result (Unit {0}) E) → Prints old new text →
    OnOk r (new.is_whole ≡ true) → OnOk r (new.bytes.items ≡ old.bytes.items ++ text)
printed_if_whole r a whole = on_ok_weaker r a.printed whole
