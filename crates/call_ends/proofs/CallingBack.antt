-- What comes after each step of a callback's line.
use Rattle.call_ends.proofs.Prelude.{AwaitsSections, Bool, Go, Loads, Next, None, Ok, Some, after_of, ap, calling_at, false, refl, sym, true, ℕ, ◌≡◌}
use Rattle.access_model.specs.declared.replies.{Next.TheVariants.Done, Reply.TheVariants.Ran}
use Rattle.percpu_rwsem.specs.{Graces.{looked, started}, SyncWords.{on_callback, on_claim, pack, unpack}, declared.callbacks.Callback.Callback}
use Rattle.percpu_rwsem.specs.declared.{callbacks.CallbackStep.TheVariants.{CallsBack, Claims}, grace.Grace.Grace}
use Rattle.percpu_rwsem.specs.declared.{grace.GraceNext.TheVariants.{Ended, More, Wait as WaitsFor}, sync_word.SyncWord.SyncWord}
use Rattle.percpu_rwsem.specs.declared.transitions.Transition.TheVariants.{Exchanges}
use Rattle.call_ends.{proofs.Closing.{other_number, same_number}, specs.CallingBack.{called_or, of_callback, sections_ended}}

module _ (level tasks : ℕ) where
  -- the claim
  pub claims_on : (found : ℕ) (from to : SyncWord) → Some from ≡ unpack found → Some to ≡ on_claim from →
      (after_of (calling_at level tasks (Claims Loads)) found (Ok tt)).0 ≡ Go (calling_at level tasks (Claims (Exchanges from to)))
  claims_on found from to is made = rw (sym is, sym made) refl

  pub claimed_so : (found : ℕ) (from to : SyncWord) (grace : Grace) → found ≡ pack from → grace ≡ started tasks →
      (after_of (calling_at level tasks (Claims (Exchanges from to))) found (Ok tt)).0 ≡ Go (calling_at level tasks (AwaitsSections grace))
  claimed_so found from to grace is begun = rw (same_number found (pack from) is) (ap (λ g. Go (calling_at level tasks (AwaitsSections g))) (sym begun))

  pub claimed_not : (found : ℕ) (from to : SyncWord) → (found ≡ pack from → ⊥) →
      (after_of (calling_at level tasks (Claims (Exchanges from to))) found (Ok tt)).0 ≡ Go (calling_at level tasks (Claims Loads))
  claimed_not found from to not = rw (other_number found (pack from) not) refl

  -- a load of a section word
  pub looks_on : (grace further : Grace) (found : ℕ) → More further ≡ looked grace found →
      (after_of (calling_at level tasks (AwaitsSections grace)) found (Ok tt)).0 ≡ Go (calling_at level tasks (AwaitsSections further))
  looks_on grace further found is = rw (sym is) refl

  pub looks_in_vain : (grace further : Grace) (found : ℕ) → WaitsFor further ≡ looked grace found →
      (after_of (calling_at level tasks (AwaitsSections grace)) found (Ok tt)).0 ≡ sections_ended level tasks (Some further)
  looks_in_vain grace further found is = rw (sym is) refl

  pub looks_last : (grace : Grace) (found : ℕ) → Ended ≡ looked grace found →
      (after_of (calling_at level tasks (AwaitsSections grace)) found (Ok tt)).0 ≡ sections_ended level tasks None
  looks_last grace found is = rw (sym is) refl

  -- its transition
  pub calls_on : (found : ℕ) (from to : SyncWord) → Some from ≡ unpack found → Some to ≡ on_callback from →
      (after_of (calling_at level tasks (CallsBack Loads)) found (Ok tt)).0 ≡ Go (calling_at level tasks (CallsBack (Exchanges from to)))
  calls_on found from to is made = rw (sym is, sym made) refl

  pub called_so : (found : ℕ) (from to : SyncWord) → found ≡ pack from →
      (after_of (calling_at level tasks (CallsBack (Exchanges from to))) found (Ok tt)).0 ≡ Done (Ok (Ran true))
  called_so found from to is = rw (same_number found (pack from) is) refl

  pub called_not : (found : ℕ) (from to : SyncWord) → (found ≡ pack from → ⊥) →
      (after_of (calling_at level tasks (CallsBack (Exchanges from to))) found (Ok tt)).0 ≡ Go (calling_at level tasks (CallsBack Loads))
  called_not found from to not = rw (other_number found (pack from) not) refl

-- whether its transition is made
pub called_true : (b : Bool) (rest : Next Callback) → b ≡ true → called_or b rest ≡ Done (Ok (Ran true))
called_true b rest is = ap (λ c. called_or c rest) is

pub called_false : (b : Bool) (rest : Next Callback) → b ≡ false → called_or b rest ≡ of_callback rest
called_false b rest is = ap (λ c. called_or c rest) is
