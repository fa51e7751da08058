-- How a condition is read whose parts are read one level less deep.
use Rattle.std.proofs.Common.{Err, List, Ok, Result, ap, arith, codes, false, refl, suc, sym, true, zero, ℕ, ◌-◌, ◌<◌, ◌∙◌, ◌≡◌}
use Rattle.gate_world.specs.declared.config.Config.{Config}
use Rattle.race_conditions.specs.{Conditions.{Formula, Is, Not}, Parsing.{IsFaultOf, Read, after_piece, both, condition_at, fact_at, joined, part_of}}
use Rattle.race_conditions.specs.{Parsing.{read_by, sign_text, ◌>>=◌}, Pieces.{end_of, is_next, unexpected}, declared.conditions.Fact.Fact}
use Rattle.race_conditions.specs.declared.faults.ConditionFault.{ConditionFault, TheVariants.{NoMemory as OutOfMemory, Unexpected as IsUnexpected}}
use Rattle.race_conditions.specs.declared.{faults.Unexpected.Unexpected, parsing.{Rank.{Rank, TheVariants.{Joined, One}}, Sign.Sign}}
use Rattle.race_conditions.specs.declared.parsing.Sign.TheVariants.{Or as OrSign}
use Rattle.race_conditions.specs.declared.faults.Expected.TheVariants as expect

-- a fault of what fails with another one is one of that
pub carried : {A B : Type 0} (part : Result A Unexpected) (whole : Result B Unexpected) (fault : ConditionFault) →
    ((f : Unexpected) → part ≡ Err f → whole ≡ Err f) → IsFaultOf part fault → IsFaultOf whole fault
carried part whole OutOfMemory on is = tt
carried part whole (IsUnexpected f) on is = on f is

module _ (text : List ℕ) (c : Config) (calls : List ℕ) where
  -- with no level left
  pub too_deep : (depth : ℕ) (rank : Rank) (at : ℕ) → depth ≡ 0 → condition_at text c calls depth rank at ≡ Err (unexpected text at expect.Shallower)
  unfolding condition_at
  too_deep depth rank at none = ap (λ d. condition_at text c calls d rank at) none

  module _ (depth : ℕ) (some : 0 < depth) where
    abbrev part : Rank → ℕ → Read Formula
    part = condition_at text c calls (depth - 1)

    is_read : (rank : Rank) (at : ℕ) → condition_at text c calls depth rank at ≡ read_by text c calls part rank at
    unfolding condition_at
    is_read rank at = by depth some
      where
        by : (d : ℕ) → 0 < d → condition_at text c calls d rank at ≡ read_by text c calls (condition_at text c calls (d - 1)) rank at
        by zero h = absurd (omega arith)
        by (suc d) h = let e : d ≡ suc d - 1 = omega arith in ap (λ k. read_by text c calls (condition_at text c calls k) rank at) e

    -- conditions with a sign between them, each of this rank
    module _ (rank inner : Rank) (sign : Sign) (at : ℕ) (is : rank ≡ Joined sign) (of : inner ≡ part_of sign) where
      first : condition_at text c calls depth rank at ≡ (part inner at >>= joined text c calls part sign)
      first =
          is_read rank at ∙ ap (λ r. read_by text c calls part r at) is ∙
          ap (λ r. part r at >>= joined text c calls part sign) (sym of)

      pub joined_failed : (f : Unexpected) → part inner at ≡ Err f → condition_at text c calls depth rank at ≡ Err f
      joined_failed f e = first ∙ ap (λ r. r >>= joined text c calls part sign) e

      module _ (one : Formula) (to : ℕ) (e : part inner at ≡ Ok (one, to)) where
        behind_first : condition_at text c calls depth rank at ≡ joined text c calls part sign (one, to)
        behind_first = first ∙ ap (λ r. r >>= joined text c calls part sign) e

        pub joined_alone : is_next text to (sign_text sign) ≡ false → condition_at text c calls depth rank at ≡ Ok (one, to)
        joined_alone off = behind_first ∙ rw off refl

        module _ (on : is_next text to (sign_text sign) ≡ true) where
          behind_sign : condition_at text c calls depth rank at ≡
              (part (Joined sign) (end_of text to) >>= λ read. Ok (both sign one read.0, read.1))
          behind_sign = behind_first ∙ rw on refl

          pub joined_both : (other : Formula) (end : ℕ) → part (Joined sign) (end_of text to) ≡ Ok (other, end) →
              condition_at text c calls depth rank at ≡ Ok (both sign one other, end)
          joined_both other end next = behind_sign ∙ ap (λ r. r >>= λ read. Ok (both sign one read.0, read.1)) next

          pub joined_broken : (f : Unexpected) → part (Joined sign) (end_of text to) ≡ Err f → condition_at text c calls depth rank at ≡ Err f
          joined_broken f next = behind_sign ∙ ap (λ r. r >>= λ read. Ok (both sign one read.0, read.1)) next

    module _ (rank : Rank) (at : ℕ) (is : rank ≡ One) where
      one_of : condition_at text c calls depth rank at ≡ read_by text c calls part One at
      one_of = is_read rank at ∙ ap (λ r. read_by text c calls part r at) is

      -- behind `!`
      module _ (on : is_next text at (codes "!") ≡ true) where
        pub denied_read : (a : Formula) (to : ℕ) → part One (end_of text at) ≡ Ok (a, to) → condition_at text c calls depth rank at ≡ Ok (Not a, to)
        denied_read a to e = one_of ∙ rw on (ap (λ r. r >>= λ read. Ok (Not read.0, read.1)) e)

        pub denied_failed : (f : Unexpected) → part One (end_of text at) ≡ Err f → condition_at text c calls depth rank at ≡ Err f
        denied_failed f e = one_of ∙ rw on (ap (λ r. r >>= λ read. Ok (Not read.0, read.1)) e)

      module _ (off : is_next text at (codes "!") ≡ false) where
        -- in parentheses
        module _ (on : is_next text at (codes "(") ≡ true) where
          pub enclosed_failed : (f : Unexpected) → part (Joined OrSign) (end_of text at) ≡ Err f → condition_at text c calls depth rank at ≡ Err f
          enclosed_failed f e =
              one_of ∙ rw (off, on)
              (ap (λ r. r >>= λ read. after_piece text (codes ")") read.1 expect.Close >>= λ closed. Ok (read.0, closed)) e)

          module _ (a : Formula) (to : ℕ) (e : part (Joined OrSign) (end_of text at) ≡ Ok (a, to)) where
            behind : condition_at text c calls depth rank at ≡ (after_piece text (codes ")") to expect.Close >>= λ closed. Ok (a, closed))
            behind =
                one_of ∙ rw (off, on)
                (ap (λ r. r >>= λ read. after_piece text (codes ")") read.1 expect.Close >>= λ closed. Ok (read.0, closed)) e)

            pub enclosed_read : (end : ℕ) → after_piece text (codes ")") to expect.Close ≡ Ok end → condition_at text c calls depth rank at ≡ Ok (a, end)
            enclosed_read end closed = behind ∙ ap (λ r. r >>= λ closed. Ok (a, closed)) closed

            pub unclosed : (f : Unexpected) → after_piece text (codes ")") to expect.Close ≡ Err f → condition_at text c calls depth rank at ≡ Err f
            unclosed f closed = behind ∙ ap (λ r. r >>= λ closed. Ok (a, closed)) closed

        -- a fact
        module _ (none : is_next text at (codes "(") ≡ false) where
          pub stated_read : (fact : Fact) (to : ℕ) → fact_at text c calls at ≡ Ok (fact, to) → condition_at text c calls depth rank at ≡ Ok (Is fact, to)
          stated_read fact to e = one_of ∙ rw (off, none) (ap (λ r. r >>= λ read. Ok (Is read.0, read.1)) e)

          pub stated_failed : (f : Unexpected) → fact_at text c calls at ≡ Err f → condition_at text c calls depth rank at ≡ Err f
          stated_failed f e = one_of ∙ rw (off, none) (ap (λ r. r >>= λ read. Ok (Is read.0, read.1)) e)
