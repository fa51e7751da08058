-- Lines that are shown, one after the other.
use Rattle.std.proofs.Common.{Bool, Err, List, None, Ok, Option, Result, Some, [], ap, append_assoc, false, refl, subst, sym, true, ℕ, ◌++◌, ◌∙◌, ◌∷◌}
use Rattle.std.{proofs.Common.◌≡◌, specs.Result.{IsErrAnd, result_and}}
use Rattle.{gate_world.specs.declared.config.Config.Config, schedule_lines.specs.declared.output.Output.Output}
use Rattle.schedule_text.specs.declared.commands.{Line.{Line, TheVariants.{Config as ConfigLine, Request, Skipped}}, Request.Request as RequestType}
use Rattle.transcripts.specs.{Limits.is_config, Transcript.{ReplayState, config_effect, line_effect}}
use Rattle.race_files.specs.{Left.{Left, behind}, Observed.{AreShown, IsDoneShown, IsShown, ShowsLines}, SettingUp.{AreDone, Opens, SetsUp}}
use Rattle.race_files.specs.declared.lines.Lines.{Lines}

-- a play stays one
config_stays : (c : Config) (is : Bool) → (config_effect c is).fault ≡ None → (config_effect c is).play ≡ None → ⊥
config_stays c true faultless e = cc
config_stays c false faultless e = cc

play_stays : (q : ReplayState) (l : Line) → (line_effect (Some q) l).fault ≡ None → (line_effect (Some q) l).play ≡ None → ⊥
play_stays q Skipped faultless e = cc
play_stays q (ConfigLine c) faultless e = config_stays c (is_config c) faultless e
play_stays q (Request request) faultless e = cc

some_none : (q : ReplayState) → Some q ≡ None → ⊥
some_none q e = cc

stays_open : (q : ReplayState) (texts : List (List ℕ)) → AreDone (Some q) texts None → ⊥
stays_open q [] e = some_none q e
stays_open q (text ∷ texts) (None, done, rest) = play_stays q done.line done.faultless done.makes
stays_open q (text ∷ texts) (Some r, done, rest) = stays_open r texts rest

-- what a `?` has passed on
pub err_is : {T E : Type 0} (r : Result T E) (e : E) → IsErrAnd r (λ x. x ≡ e) → r ≡ Err e
err_is (Ok x) e h = absurd h
err_is (Err x) e h = ap Err h

-- a fault before another answer is that of both
pub and_error : {T U E : Type 0} (r : Result T E) (s t : Result U E) (fault : E) → t ≡ result_and r s → r ≡ Err fault → t ≡ Err fault
and_error {T} {U} {E} r s t fault is e = is ∙ ap (λ (x : Result T E). result_and x s) e

-- a line, and those behind it
pub before_others : (left now : Left) (line : List ℕ) → left.lines ≡ line ∷ (behind left).lines → now ≡ behind left → left.lines ≡ line ∷ now.lines
before_others left now line first rest = first ∙ ap (λ (x : Left). line ∷ x.lines) (sym rest)

module _ {W : Type 0} (takes : W → Lines → Output → W → Output → Type 0) (count : ℕ) where
  -- lines after others
  shown_more : (from mid to : Option ReplayState) (before after left : List (List ℕ)) (s t u : W × Output) →
      AreShown takes count from before (after ++ left) mid s t → AreShown takes count mid after left to t u →
      AreShown takes count from (before ++ after) left to s u
  shown_more from mid to [] after left s t u first more =
      subst (λ (p : Option ReplayState). AreShown takes count p after left to s u) (sym first.0)
      (subst (λ (x : W × Output). AreShown takes count mid after left to x u) first.1 more)
  shown_more from mid to (text ∷ texts) after left s t u first more = (
    first.0,
    first.1,
    subst (λ (others : List (List ℕ)). IsDoneShown takes count from text others first.0 s first.1) (sym (append_assoc texts after left)) first.2,
    shown_more first.0 mid to texts after left first.1 t u first.3 more,
  )

  -- before a configuration nothing is shown
  quiet : (texts left : List (List ℕ)) (s : W × Output) → AreDone None texts None → AreShown takes count None texts left None s s
  quiet [] left s e = (refl, refl)
  quiet (text ∷ texts) left s (None, done, rest) =
      (None, s, record { done = done; line = done.line; read = done.understood; shown = refl }, quiet texts left s rest)
  quiet (text ∷ texts) left s (Some q, done, rest) = absurd (stays_open q texts rest)

  pub quiet_lines : (all left : Left) (s : W × Output) → SetsUp None None all left → ShowsLines takes count None None all left s s
  quiet_lines all left s so = record { done = so.before; lines = so.lines; shown = quiet so.before left.lines s so.done }

  -- no line yet
  pub none_shown : (p : Option ReplayState) (all : Left) (s : W × Output) → ShowsLines takes count p p all all s s
  none_shown p all s = record { done = []; lines = refl; shown = (refl, refl) }

  -- one more
  pub one_shown : (from to next : Option ReplayState) (all left now : Left) (line : List ℕ) (s t u : W × Output) →
      ShowsLines takes count from to all left s t → left.lines ≡ line ∷ now.lines → IsDoneShown takes count to line now.lines next t u →
      ShowsLines takes count from next all now s u
  one_shown from to next all left now line s t u so_far first is = record {
    done = so_far.done ++ line ∷ [];
    lines = so_far.lines ∙ (ap (λ (l : List (List ℕ)). so_far.done ++ l) first ∙ sym (append_assoc so_far.done (line ∷ []) now.lines));
    shown = shown_more from to next so_far.done (line ∷ []) now.lines s t u
        (subst (λ (l : List (List ℕ)). AreShown takes count from so_far.done l to s t) first so_far.shown) (next, u, is, (refl, refl));
  }

  -- the configuration
  pub opening_shown : (p : ReplayState) (all left : Left) (s : W × Output) → Opens p all left → ShowsLines takes count None (Some p) all left s s
  opening_shown p all left s opens =
      one_shown None None (Some p) all opens.before left opens.text s s s (quiet_lines all opens.before s opens.unopened)
      (before_others opens.before left opens.text opens.first opens.rest)
      (record { done = opens.opens; line = opens.opens.line; read = opens.opens.understood; shown = refl })

  -- a line that asks for nothing
  pub unshown : (q : ReplayState) (text : List ℕ) (others : List (List ℕ)) (l : Line) (s : W × Output) → ((r : RequestType) → l ≡ Request r → ⊥) →
      IsShown takes count (Some q) text others l s s
  unshown q text others Skipped s other = refl
  unshown q text others (ConfigLine c) s other = refl
  unshown q text others (Request request) s other = absurd (other request refl)

  -- and those that come behind
  pub and_shown : (from mid to : Option ReplayState) (all left now : Left) (s t u : W × Output) → ShowsLines takes count from mid all left s t →
      ShowsLines takes count mid to left now t u → ShowsLines takes count from to all now s u
  and_shown from mid to all left now s t u first second = record {
    done = first.done ++ second.done;
    lines = first.lines ∙ (ap (λ (l : List (List ℕ)). first.done ++ l) second.lines ∙ sym (append_assoc first.done second.done now.lines));
    shown = shown_more from mid to first.done second.done now.lines s t u
        (subst (λ (l : List (List ℕ)). AreShown takes count from first.done l mid s t) second.lines first.shown) second.shown;
  }
