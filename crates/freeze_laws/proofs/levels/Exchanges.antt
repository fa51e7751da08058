-- the transitions that phases make are those of the number in memory
use Rattle.std.{proofs.{Common.{ap, arith, inl, inr, refl, ℕ, ◌∙◌, ◌≡◌}, lemmas.Bool.Decides.eqb_tells}, specs.Prelude.{Option, Some}}
use Rattle.percpu_rwsem.{proofs.SyncWords.unpack_pack, specs.{SyncWords.{pack, unpack}, Transitions.word_loaded}}
use Rattle.percpu_rwsem.specs.declared.{sync_word.SyncWord.SyncWord, transitions.Transition.Transition}
use Rattle.freeze_laws.specs.levels.{Changes.{put_by, state_found_in, transition_of}, Exchanges.{ExchangesMakeTransitions, MakesTransition}}

-- a number was loaded
load_shows : (makes : SyncWord → Option SyncWord) (found : ℕ) (o : Option SyncWord) → unpack found ≡ o →
    MakesTransition makes found found (word_loaded makes o)
load_shows makes found o e = grind arith

pub exchanges_make_transitions : ExchangesMakeTransitions
exchanges_make_transitions makes level found Transition.Loads known = load_shows makes found (unpack found) refl
exchanges_make_transitions makes level found (Transition.Exchanges from to) known =
    elim (eqb_tells found (pack from)) [
      | inl e ↦
          let u : unpack found ≡ Some from = ap unpack e.1 ∙ unpack_pack from known.0 in
          rw e.0 (ap state_found_in u, ap (transition_of makes) u ∙ ap put_by known.1)
      | inr e ↦ rw e.0 (refl, tt)
    ]
