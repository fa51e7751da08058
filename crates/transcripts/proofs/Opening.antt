-- A session as it opens: its gates and its model are within the limits of its configuration.
use Rattle.std.proofs.{Common.{◌≡◌, refl, sym, ap, subst, ◌∙◌, arith, Result, Ok, Err}, lemmas.Bool.{false≢true, Decides.{nat_tests}}}
use Rattle.std.specs.{Prelude.{true, IfOk, OnOk, []}, Result.{MatchResult, is_ok}}
use Rattle.gate_world.specs.{Configs.{IsWithin}, Worlds.{World, opening}, declared.config.Config.{Config}}
use Rattle.model_state.specs.{Limits.{AreLimits}, Shown.{bounded_state_of, opened}}
use Rattle.transcripts.specs.{Limits.{is_config}, Sessions.{ShowsPlay}, Transcript.{opening_play}, declared.session.Session.{Session}}

-- a configuration within the limits passes the test
pub is_config_within : (c : Config) → IsWithin c → is_config c ≡ true
is_config_within c within = grind (arith, nat_tests)

-- and its numbers are those of a model
pub limits_within : (c : Config) → IsWithin c → AreLimits c.tasks c.mounts c.nodes
limits_within c within = (within.some_task, within.tasks, within.some_mount, within.mounts, within.some_node, within.nodes)

-- where an answer is none but for its error, what is known of it is known
pub known_mapped : {A E F : Type 0} (r : Result A E) (s : Result A F) (x : A) (P : Type 0) → OnOk r P → is_ok s ≡ is_ok r → s ≡ Ok x → P
known_mapped (Ok y) s x P h same e = h
known_mapped (Err y) s x P h same e = absurd (false≢true (sym same ∙ ap is_ok e))

-- what is known of an answer holds where only its error was mapped
pub answer_mapped : {A E F : Type 0} (r : Result A E) (s : Result A F) (x : A) (P : A → Type 0) (Q : E → Type 0) → IfOk r P →
    MatchResult r (λ y. s ≡ Ok y) Q → is_ok s ≡ is_ok r → s ≡ Ok x → P x
answer_mapped (Ok y) s x P Q h mapped same e = let is : y ≡ x = cc in subst P is h
answer_mapped (Err y) s x P Q h mapped same e = absurd (false≢true (sym same ∙ ap is_ok e))

-- the session of an opening state and an opening model
pub opens : {D : Type 0} (shows : D → Config → World → Type 0) (session : Session D) → IsWithin session.config →
    shows session.driver session.config opening →
    bounded_state_of session.model ≡ opened session.config.tasks session.config.mounts session.config.nodes session.config.capacity →
    ShowsPlay shows session (opening_play session.config)
opens shows session within shown model = record {
  config = refl;
  driver = shown;
  model = model;
  reached = record { within = within; entries = []; world = refl; done = refl };
}
