-- The first two steps of a taking of write access, whose words are known.
use Rattle.call_ends.proofs.Prelude.{Accesses, Go, Led, Next, None, Ok, Op, Phase, Writes, after_of, ap, led_on, led_to, subst, sym, ℕ, ◌∙◌, ◌≡◌}
use Rattle.std.proofs.Common.{Option}
use Rattle.composite_ops.specs.declared.write_access.phases.WritePhase.{WritePhase}
use Rattle.gate_steps.specs.{call_events.Led.TaskSeat, declared.call_events.words.GateWords.GateWords}
use Rattle.percpu_rwsem.specs.declared.readers.DownReadStep.TheVariants.{CountsUpFast, EntersSection, LoadsSync}
use Rattle.call_ends.specs.Paths.{taking_at}

-- what comes after a step of a taking or a return that stood there
abbrev after_step : WritePhase → ℕ → Next Phase
after_step at n = (after_of (Writes at) n (Ok tt)).0

-- the entry of the section leads to the load of the sync word
pub led_entered : {gates : GateWords} {begins : Option Op} {accesses : Accesses} {sa sm : TaskSeat} (mount cpu task entered : ℕ)
    {p q : WritePhase} → p ≡ taking_at mount cpu task EntersSection → q ≡ taking_at mount cpu task LoadsSync →
    Led gates begins (Go (Writes p)) accesses sa (after_step p entered) accesses sm →
    Led gates begins (Go (Writes (taking_at mount cpu task EntersSection))) accesses sa (Go (Writes q)) accesses sm
led_entered {gates} {begins} {accesses} {sa} {sm} mount cpu task entered p_is q_is one =
    led_to (ap (λ (at : WritePhase). Go (Writes at)) (sym q_is))
    (subst (λ at. Led gates begins (Go (Writes at)) accesses sa (after_step at entered) accesses sm) p_is one)

-- the entry and the load
module _ {gates : GateWords} {begins : Option Op} {accesses : Accesses} {sa sm sb : TaskSeat}
    (mount cpu task entered found : ℕ) {p q : WritePhase}
    (p_is : p ≡ taking_at mount cpu task EntersSection) (q_is : q ≡ taking_at mount cpu task LoadsSync) where
  -- they lead from the one to what comes after the other
  pub led_sync : Led gates begins (Go (Writes p)) accesses sa (after_step p entered) accesses sm →
      Led gates None (Go (Writes q)) accesses sm (after_step q found) accesses sb →
      Led gates begins (Go (Writes (taking_at mount cpu task EntersSection))) accesses sa
      (after_of (Writes (taking_at mount cpu task LoadsSync)) found (Ok tt)).0 accesses sb
  led_sync one two = led_on (led_entered mount cpu task entered p_is q_is one) (led_to (ap (λ (at : WritePhase). after_step at found) q_is) two)

  -- and where it was found idle, to the count
  pub led_idle : {r : WritePhase} → found ≡ 0 → r ≡ taking_at mount cpu task CountsUpFast →
      Led gates begins (Go (Writes p)) accesses sa (after_step p entered) accesses sm →
      Led gates None (Go (Writes q)) accesses sm (after_step q found) accesses sb →
      Led gates begins (Go (Writes (taking_at mount cpu task EntersSection))) accesses sa (Go (Writes r)) accesses sb
  led_idle zero r_is one two =
      led_to (ap (λ n. after_step (taking_at mount cpu task LoadsSync) n) zero ∙ ap (λ (at : WritePhase). Go (Writes at)) (sym r_is))
      (led_sync one two)
