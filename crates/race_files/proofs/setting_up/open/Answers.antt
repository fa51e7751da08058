-- lines that are no configuration make no play, and none of them is `race`
use Rattle.std.proofs.Common.{IfSome, None, Ok, Some, ap, refl, subst, sym, ◌∙◌, ◌∷◌, ◌≡◌}
use Rattle.{exploration.proofs.Lists.err_from, schedule_text.specs.Parsing.parsed, transcripts.specs.Transcript.opening_play}
use Rattle.race_files.proofs.{FirstFaults.{at_end, no_line, not_opened}, Reading.{all_left, one_less}, SettingUp.{config_opens, no_config, none_yet}}
use Rattle.race_files.{proofs.SettingUp.one_more, specs.{Left.{behind, left_in}, declared.faults.RaceFault.TheVariants.Schedule}}
use Rattle.race_files.proofs.setting_up.open.Goals as goal

pub loop-line-init : goal.loop-line-init
loop-line-init c = record { left = all_left _; count = refl; made = none_yet None _ }

pub loop-line-preserved : goal.loop-line-preserved
loop-line-preserved c =
    let left = left_in c.loop-line.lines in
    let line = c.in-Some.line.now in
    let first : left.lines ≡ line ∷ (behind left).lines =
    subst (λ found. IfSome found (λ x. left.lines ≡ x.now ∷ (behind left).lines)) c.in-Some.is c.in_ok-line.ensures.some in
    let understood : parsed line None ≡ Ok c.in_ok-config.field-0 = sym c.parse.ensures ∙ c.in_ok-config.was in
    record {
      left = one_less _ _ _ c.loop-line.invariant.left c.take-in-Some.ensures.left;
      count = c.take-in-Some.ensures.count ∙ c.loop-line.invariant.count;
      made = one_more None None None (left_in c.args.lines.now) left (left_in c.take-in-Some.new.self) line c.loop-line.invariant.made first
          c.take-in-Some.ensures.left (no_config line c.in_ok-config.field-0 understood c.in_default-2.not-Config);
    }

pub returns-in-Config-clause-left : goal.returns-in-Config-clause-left
returns-in-Config-clause-left c = one_less _ _ _ c.loop-line.invariant.left c.take.ensures.left

pub returns-in-Config-clause-made : goal.returns-in-Config-clause-made
returns-in-Config-clause-made c =
    let left = left_in c.loop-line.lines in
    let line = c.in-Some.line.now in
    let config = c.in-Config.config in
    let first : left.lines ≡ line ∷ (behind left).lines =
    subst (λ found. IfSome found (λ x. left.lines ≡ x.now ∷ (behind left).lines)) c.in-Some.is c.in_ok-line.ensures.some in
    let understood : parsed line None ≡ Ok c.in_ok-config.field-0 = sym c.parse.ensures ∙ c.in_ok-config.was in (
      opening_play config,
      record {
        before = left;
        unopened = c.loop-line.invariant.made;
        text = line;
        first = first;
        rest = c.take.ensures.left;
        opens = config_opens line config (understood ∙ ap Ok c.in-Config.is) c.in_ok-session.ensures.within;
      },
      c.in_ok-session.ensures.opens refl,
    )

pub returns-in_err-line-clause-fault : goal.returns-in_err-line-clause-fault
returns-in_err-line-clause-fault c =
    err_from _ (Schedule c.in_err-line.field-0.0) _ c.from_residual.ensures.1
    (at_end None None _ _ (Some c.in_err-line.field-0.0) _ c.loop-line.invariant.made c.in_err-line.ensures.fault refl)

pub returns-in_err-config-clause-fault : goal.returns-in_err-config-clause-fault
returns-in_err-config-clause-fault c =
    let left = left_in c.loop-line.lines in
    let line = c.in-Some.line.now in
    let first : left.lines ≡ line ∷ (behind left).lines =
    subst (λ found. IfSome found (λ x. left.lines ≡ x.now ∷ (behind left).lines)) c.in-Some.is c.in_ok-line.ensures.some in
    err_from _ (Schedule c.in_err-config.field-0.0) _ c.from_residual-in_err-config.ensures.1
    (no_line None _ left line c.in_err-config.field-0.0 _ c.loop-line.invariant.made first (sym c.parse.ensures ∙ c.in_err-config.was) refl)

pub returns-in_err-session-clause-fault : goal.returns-in_err-session-clause-fault
returns-in_err-session-clause-fault c =
    let left = left_in c.loop-line.lines in
    let line = c.in-Some.line.now in
    let first : left.lines ≡ line ∷ (behind left).lines =
    subst (λ found. IfSome found (λ x. left.lines ≡ x.now ∷ (behind left).lines)) c.in-Some.is c.in_ok-line.ensures.some in
    let understood : parsed line None ≡ Ok c.in_ok-config.field-0 = sym c.parse.ensures ∙ c.in_ok-config.was in
    err_from _ (Schedule c.in_err-session.field-0.0) _ c.from_residual-in_err-session.ensures.1
    (not_opened None _ left line c.in-Config.config c.new.result c.in_err-session.field-0.0 _ c.loop-line.invariant.made first
    (understood ∙ ap Ok c.in-Config.is) c.in_err-session.was c.new.ensures.invalid c.new.ensures.memory refl)

pub returns-clause-fault : goal.returns-clause-fault
returns-clause-fault c = at_end None None _ _ None _ c.loop-line.invariant.made (c.in_ok-line.ensures.none (ap Ok c.in_default.is)) refl
