use Rattle.std.proofs.Common.{Err, IfSome, None, Ok, Some, ap, false, inr, refl, subst, sym, ◌∙◌, ◌∷◌, ◌≡◌}
use Rattle.{exploration.proofs.Lists.err_from, schedule_text.specs.{Parsing.parsed, declared.commands.Line.TheVariants.Request as RequestLine}}
use Rattle.transcripts.specs.Transcript.{ReplayState, request_outcome}
use Rattle.race_files.proofs.{FirstFaults.{at_end, no_request_line, no_word}, Observed.{before_others, err_is, none_shown, one_shown, unshown}}
use Rattle.race_files.proofs.{Reading.{all_left, one_less}, SettingUp.{no_request, none_yet, one_more, request_done}}
use Rattle.race_files.{proofs.setting_up.do_lines.Goals.{in-Request+in_ok-do_request, in_default-2}, specs.Calls.is_race}
use Rattle.race_files.specs.{Left.{behind, left_in, line_count}, declared.faults.RaceFault.TheVariants.Schedule}
use Rattle.race_files.proofs.setting_up.do_lines.Goals as goal

pub loop-line-init : goal.loop-line-init
loop-line-init g c = record { left = all_left _; count = refl; made = λ p shows. (p, none_yet _ _, shows, none_shown _ _ _ _ _) }

pub loop-line-preserved : goal.loop-line-preserved
loop-line-preserved g c =
    let left = left_in c.loop-line.lines in
    let line = c.in-Some.line.now in
    let first : left.lines ≡ line ∷ (behind left).lines =
    subst (λ found. IfSome found (λ x. left.lines ≡ x.now ∷ (behind left).lines)) c.in-Some.is c.in_ok-line.ensures.some in
    let next = before_others left (left_in c.take-in-Some.new.self) line first c.take-in-Some.ensures.left in
    let no_race : is_race line ≡ Ok false = sym c.in_ok-is_race.ensures ∙ ap Ok c.if-branch.false in
    record {
      left = one_less _ _ _ c.loop-line.invariant.left c.take-in-Some.ensures.left;
      count = c.take-in-Some.ensures.count ∙ c.loop-line.invariant.count;
      made = λ p shows.
          let so_far = c.loop-line.invariant.made p shows in
          let q : ReplayState = so_far.0 in
          let understood : parsed line (Some q.config.tasks) ≡ Ok c.in_ok-request.field-0 =
          ap (λ n. parsed line (Some n)) (sym (c.tasks.ensures q so_far.2)) ∙ (sym c.parse.ensures ∙ c.in_ok-request.was) in
          elim c.match-branch-5.branch [
            | in-Request+in_ok-do_request w ↦ (
              (request_outcome q w.in-Request.request).play,
              one_more (Some p) (Some q) (Some (request_outcome q w.in-Request.request).play) (left_in c.args.lines.now) left
                  (left_in c.take-in-Some.new.self) line so_far.1 first c.take-in-Some.ensures.left
                  (request_done q line w.in-Request.request no_race (understood ∙ ap Ok w.in-Request.is)),
              rw w.session-is (w.in_ok-do_request.ensures.shows q so_far.2),
              rw w.watch-is (rw w.printed-is (one_shown g.W.SetUpObserver.takes (line_count c.args.lines.now) (Some p) (Some q)
                  (Some (request_outcome q w.in-Request.request).play) (left_in c.args.lines.now) left (left_in c.take-in-Some.new.self) line
                  (c.args.watch.now, c.args.printed.now) (c.loop-line.watch, c.loop-line.printed) (w.take.new.self, w.do_request.new.out) so_far.3 next
                  (record {
                    done = request_done q line w.in-Request.request no_race (understood ∙ ap Ok w.in-Request.is);
                    line = RequestLine w.in-Request.request;
                    read = understood ∙ ap Ok w.in-Request.is;
                    shown = record {
                      at = c.loop-line.lines;
                      next = next;
                      number = c.loop-line.invariant.count;
                      left = w.take.new.printed;
                      taken = w.take.ensures;
                      prints = w.in_ok-do_request.ensures.prints q so_far.2;
                    };
                  }))),
            )
            | in_default-2 w ↦ (
              q,
              one_more (Some p) (Some q) (Some q) (left_in c.args.lines.now) left (left_in c.take-in-Some.new.self) line so_far.1 first
                  c.take-in-Some.ensures.left (no_request q line c.in_ok-request.field-0 no_race understood w.in_default-2.not-Request),
              rw w.session-is so_far.2,
              rw w.watch-is (rw w.printed-is (one_shown g.W.SetUpObserver.takes (line_count c.args.lines.now) (Some p) (Some q) (Some q)
                  (left_in c.args.lines.now) left (left_in c.take-in-Some.new.self) line (c.args.watch.now, c.args.printed.now)
                  (c.loop-line.watch, c.loop-line.printed) (c.loop-line.watch, c.loop-line.printed) so_far.3 next
                  (record {
                    done = no_request q line c.in_ok-request.field-0 no_race understood w.in_default-2.not-Request;
                    line = c.in_ok-request.field-0;
                    read = understood;
                    shown = unshown g.W.SetUpObserver.takes (line_count c.args.lines.now) q line (left_in c.take-in-Some.new.self).lines c.in_ok-request.field-0 _ w.in_default-2.not-Request;
                  }))),
            )
          ];
    }

pub returns-then-branch-clause-begin : goal.returns-then-branch-clause-begin
returns-then-branch-clause-begin g c =
    let left = left_in c.loop-line.lines in
    record {
      after = c.loop-line.invariant.left;
      line = c.in-Some.line.now;
      first = subst (λ found. IfSome found (λ line. left.lines ≡ line.now ∷ (behind left).lines)) c.in-Some.is c.in_ok-line.ensures.some;
      race = sym c.in_ok-is_race.ensures ∙ ap Ok c.if-branch.true;
    }

pub returns-then-branch-clause-made : goal.returns-then-branch-clause-made
returns-then-branch-clause-made g c = λ p shows. let so_far = c.loop-line.invariant.made p shows in (so_far.0, so_far.1, so_far.2)

pub returns-in_err-line-clause-fault : goal.returns-in_err-line-clause-fault
returns-in_err-line-clause-fault g c = λ p shows.
    let so_far = c.loop-line.invariant.made p shows in
    err_from _ (Schedule c.in_err-line.field-0.0) _ c.from_residual.ensures.1
    (at_end (Some p) (Some so_far.0) _ _ (Some c.in_err-line.field-0.0) _ so_far.1 c.in_err-line.ensures.fault refl)

pub returns-in_err-is_race-clause-fault : goal.returns-in_err-is_race-clause-fault
returns-in_err-is_race-clause-fault g c = λ p shows.
    let left = left_in c.loop-line.lines in
    let line = c.in-Some.line.now in
    let first : left.lines ≡ line ∷ (behind left).lines =
    subst (λ found. IfSome found (λ x. left.lines ≡ x.now ∷ (behind left).lines)) c.in-Some.is c.in_ok-line.ensures.some in
    let so_far = c.loop-line.invariant.made p shows in
    err_from _ (Schedule c.in_err-is_race.field-0.0) _ c.from_residual-in_err-is_race.ensures.1
    (no_word (Some p) so_far.0 _ left line c.in_err-is_race.field-0.0 _ so_far.1 first (sym c.in_err-is_race.ensures) refl)

pub returns-in_err-request-clause-fault : goal.returns-in_err-request-clause-fault
returns-in_err-request-clause-fault g c = λ p shows.
    let left = left_in c.loop-line.lines in
    let line = c.in-Some.line.now in
    let first : left.lines ≡ line ∷ (behind left).lines =
    subst (λ found. IfSome found (λ x. left.lines ≡ x.now ∷ (behind left).lines)) c.in-Some.is c.in_ok-line.ensures.some in
    let no_race : is_race line ≡ Ok false = sym c.in_ok-is_race.ensures ∙ ap Ok c.if-branch.false in
    let so_far = c.loop-line.invariant.made p shows in
    err_from _ (Schedule c.in_err-request.field-0.0) _ c.from_residual-in_err-request.ensures.1
    (no_request_line (Some p) so_far.0 _ left line c.in_err-request.field-0.0 _ so_far.1 first no_race
    (ap (λ n. parsed line (Some n)) (sym (c.tasks.ensures so_far.0 so_far.2)) ∙ (sym c.parse.ensures ∙ c.in_err-request.was)) refl)

pub returns-in_err-do_request-clause-fault : goal.returns-in_err-do_request-clause-fault
returns-in_err-do_request-clause-fault g c = λ p shows.
    let so_far = c.loop-line.invariant.made p shows in
    err_from _ (Schedule c.in_err-do_request.field-0.0) _ c.from_residual-in_err-do_request.ensures.1
    (inr (ap Schedule (c.in_err-do_request.ensures.memory so_far.0 so_far.2)))

pub returns-clause-fault : goal.returns-clause-fault
returns-clause-fault g c = λ p shows.
    let so_far = c.loop-line.invariant.made p shows in
    at_end (Some p) (Some so_far.0) _ _ None _ so_far.1 (c.in_ok-line.ensures.none (ap Ok c.in_default.is)) refl

pub returns-then-branch-clause-shown : goal.returns-then-branch-clause-shown
returns-then-branch-clause-shown g c = λ p shows other. let so_far = c.loop-line.invariant.made p shows in (Some so_far.0, so_far.3)

pub returns-in_err-line-clause-shown : goal.returns-in_err-line-clause-shown
returns-in_err-line-clause-shown g c = λ p shows other. let so_far = c.loop-line.invariant.made p shows in (Some so_far.0, so_far.3)

pub returns-in_err-is_race-clause-shown : goal.returns-in_err-is_race-clause-shown
returns-in_err-is_race-clause-shown g c = λ p shows other. let so_far = c.loop-line.invariant.made p shows in (Some so_far.0, so_far.3)

pub returns-in_err-request-clause-shown : goal.returns-in_err-request-clause-shown
returns-in_err-request-clause-shown g c = λ p shows other. let so_far = c.loop-line.invariant.made p shows in (Some so_far.0, so_far.3)

pub returns-clause-shown : goal.returns-clause-shown
returns-clause-shown g c = λ p shows other. let so_far = c.loop-line.invariant.made p shows in (Some so_far.0, so_far.3)

pub returns-in_err-do_request-clause-shown : goal.returns-in_err-do_request-clause-shown
returns-in_err-do_request-clause-shown g c = λ p shows other.
    let so_far = c.loop-line.invariant.made p shows in
    absurd (other (err_is _ _ c.from_residual-in_err-do_request.ensures.1 ∙ ap (λ f. Err (Schedule f)) (c.in_err-do_request.ensures.memory so_far.0 so_far.2)))
