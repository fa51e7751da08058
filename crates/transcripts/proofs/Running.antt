-- A run, step by step.
use Rattle.std.proofs.Common.{◌≡◌, ℕ, ◌+◌, ◌-◌, ◌<◌, suc, refl, sym, ap, subst, ◌∙◌, arith, inl, inr, ◌⊎◌}
use Rattle.std.specs.Prelude.{Bool, true, false, Option, Result}
use Rattle.access_model.specs.declared.{errors.GateError.{GateError}, replies.Reply.{Reply}}
use Rattle.cpu_words.specs.Hooks.{HookAnswer}
use Rattle.gate_transitions.specs.declared.steps.Progress.{Progress, TheVariants.{Idle, Going, Waiting, Done as Ended}}
use Rattle.gate_transitions.specs.Answers.{step_answer}
use Rattle.gate_world.specs.{Worlds.{World}, declared.config.Config.{Config}}
use Rattle.schedule_text.specs.declared.commands.HookFailure.{HookFailure}
use Rattle.transcripts.specs.Transcript.{ReplayState, after_event, hook_answer, next_progress, next_play, run_from, run_of}
use Rattle.transcripts.specs.{Sessions.{ShowsPlay}, declared.session.Session.{Session}}

-- the run has to wait, or has ended
abbrev IsLast : Progress → Type 0
IsLast x = (x ≡ Waiting) ⊎ ((answer : Result Reply GateError) × (x ≡ Ended answer))

-- a run that is on its way, after so many steps
pub record OnTheWay {D : Type 0} (shows : D → Config → World → Type 0) (session : Session D)
    (p : ReplayState) (t : ℕ) (failure : Option HookFailure) (events : ℕ) : Type 0 where
  pub now : ReplayState
  pub shown : ShowsPlay shows session now
  pub left : run_of p t failure ≡ run_from (1000 - events) now t failure

-- before its first step
pub starts : {D : Type 0} {shows : D → Config → World → Type 0} (session : Session D) (p : ReplayState) (t : ℕ) (failure : Option HookFailure) →
    ShowsPlay shows session p → OnTheWay shows session p t failure 0
unfolding run_of
starts session p t failure h = record { now = p; shown = h; left = refl }

module _ {D : Type 0} {shows : D → Config → World → Type 0} (session : Session D) (p : ReplayState) (t : ℕ) (failure : Option HookFailure) (events : ℕ)
    (way : OnTheWay shows session p t failure events) (hook : HookAnswer) (same : hook ≡ hook_answer way.now t failure) where
  -- a step whose hook answers as the run says is the run's next one
  pub progress_in_run : (step_answer way.now.config way.now.world t hook).progress ≡ next_progress way.now t failure
  progress_in_run = ap (λ (h : HookAnswer). (step_answer way.now.config way.now.world t h).progress) same

  -- and its play is the run's next one
  pub shows_in_run : (new : Session D) → ShowsPlay shows new (after_event way.now t hook) → ShowsPlay shows new (next_play way.now t failure)
  shows_in_run new h = subst (λ (a : HookAnswer). ShowsPlay shows new (after_event way.now t a)) same h

-- what a run comes to by a step that answers this, where so many more may follow
abbrev turn : ℕ → ReplayState → ℕ → Option HookFailure → Progress → Progress × ReplayState
turn left q t failure x =
    elim x [
      | Idle ↦ (Idle, next_play q t failure)
      | Going ↦ run_from left (next_play q t failure) t failure
      | Waiting ↦ (Waiting, next_play q t failure)
      | Ended answer ↦ (Ended answer, next_play q t failure)
    ]

-- one step more
one_turn : (p q : ReplayState) (t : ℕ) (failure : Option HookFailure) (events : ℕ) (x : Progress) → events < 1000 →
    run_of p t failure ≡ run_from (1000 - events) q t failure → x ≡ next_progress q t failure →
    run_of p t failure ≡ turn (1000 - (events + 1)) q t failure x
one_turn p q t failure events x lt left is =
    let e : 1000 - events ≡ suc (1000 - (events + 1)) = omega arith in
    left ∙ ap (λ (n : ℕ). run_from n q t failure) e ∙ ap (turn (1000 - (events + 1)) q t failure) (sym is)

-- a step after which the operation goes on
pub goes_on : {D : Type 0} {shows : D → Config → World → Type 0} (session new : Session D) (p : ReplayState) (t : ℕ) (failure : Option HookFailure) (events : ℕ)
    (way : OnTheWay shows session p t failure events) → events < 1000 → Going ≡ next_progress way.now t failure →
    ShowsPlay shows new (next_play way.now t failure) → OnTheWay shows new p t failure (events + 1)
goes_on session new p t failure events way lt is h = record {
  now = next_play way.now t failure;
  shown = h;
  left = one_turn p way.now t failure events Going lt way.left is;
}

-- an idle task ends the run
pub is_idle : {D : Type 0} {shows : D → Config → World → Type 0} (session : Session D) (p : ReplayState) (t : ℕ) (failure : Option HookFailure) (events : ℕ)
    (way : OnTheWay shows session p t failure events) → events < 1000 → Idle ≡ next_progress way.now t failure →
    run_of p t failure ≡ (Idle, next_play way.now t failure)
is_idle session p t failure events way lt is = one_turn p way.now t failure events Idle lt way.left is

-- every answer but that the operation goes on ends a run
abbrev going_ends : Progress → Bool
going_ends Going = false
going_ends _ = true

-- the last step of a run
last_turn : (left : ℕ) (q : ReplayState) (t : ℕ) (failure : Option HookFailure) (x : Progress) → going_ends x ≡ true →
    turn left q t failure x ≡ (x, next_play q t failure)
last_turn left q t failure Idle a = refl
last_turn left q t failure Going a = cc
last_turn left q t failure Waiting a = refl
last_turn left q t failure (Ended answer) a = refl

-- having to wait and a reply are such answers
ended : (x : Progress) → IsLast x → going_ends x ≡ true
ended x (inl e) = ap going_ends e
ended x (inr e) = ap going_ends e.1

-- having to wait or a reply ends the run
pub stops : {D : Type 0} {shows : D → Config → World → Type 0} (session : Session D) (p : ReplayState) (t : ℕ) (failure : Option HookFailure) (events : ℕ)
    (way : OnTheWay shows session p t failure events) (x : Progress) → events < 1000 → x ≡ next_progress way.now t failure → IsLast x →
    run_of p t failure ≡ (x, next_play way.now t failure)
stops session p t failure events way x lt is how =
    one_turn p way.now t failure events x lt way.left is ∙ last_turn (1000 - (events + 1)) way.now t failure x (ended x how)

-- how a run ended, where it is known
pub progress_so : (p : ReplayState) (t : ℕ) (failure : Option HookFailure) (x : Progress) (q : ReplayState) →
    run_of p t failure ≡ (x, q) → (run_of p t failure).0 ≡ x
progress_so p t failure x q e = ap (λ (r : Progress × ReplayState). r.0) e

-- the play that a run ends in, where it is known
pub shows_so : {D : Type 0} {shows : D → Config → World → Type 0} (session : Session D) (p : ReplayState) (t : ℕ) (failure : Option HookFailure)
    (x : Progress) (q : ReplayState) → run_of p t failure ≡ (x, q) → ShowsPlay shows session q → ShowsPlay shows session (run_of p t failure).1
shows_so {shows = shows} session p t failure x q e h = subst (λ (r : Progress × ReplayState). ShowsPlay shows session r.1) (sym e) h
