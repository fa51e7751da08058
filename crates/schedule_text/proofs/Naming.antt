-- The verb that a word names.
use Rattle.std.proofs.{Common.{List, Some, ap, bytes_eq, sym, true, ℕ, ◌∙◌, ◌≡◌}, lemmas.Slice.Eq.bytes_eq-Decides}
use Rattle.schedule_text.specs.{Verbs.verb_of, declared.verbs.Verb.Verb}

-- a word that is the name of a verb names it
pub named : (word name : List ℕ) (verb : Verb) → bytes_eq word name ≡ true → verb_of name ≡ Some verb → Some verb ≡ verb_of word
named word name verb same of = sym (ap verb_of ((bytes_eq-Decides word name).0 same) ∙ of)
