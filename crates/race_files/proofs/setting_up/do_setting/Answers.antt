use Rattle.std.proofs.Common.{ℕ, sym, subst, None, Some}
use Rattle.std.specs.Result.{OnOk}
use Rattle.race_files.specs.{Left.{BeginRace, left_in, line_count}, Observed.{ShowsLines}}
use Rattle.race_files.proofs.{FirstFaults.{and_fault, behind_others}, Observed.{and_error, and_shown, opening_shown, quiet_lines}, Reading.{and_told, begins_behind}, SettingUp.{and_made, and_more, opening}}
use Rattle.race_files.proofs.setting_up.do_setting.Goals as goal

pub returns-clause-begin : goal.returns-clause-begin
returns-clause-begin g c =
    let all = left_in c.args.lines.now in
    let left = left_in c.open.new.lines in
    let now = left_in c.do_lines-done.new.lines in
    subst (λ r. OnOk r (BeginRace all now)) (sym c.and.ensures)
    (and_told c.do_lines-done.result _ (BeginRace left now) (BeginRace all now) (begins_behind all left now c.in_ok-session.ensures.left) c.do_lines-done.ensures.begin)

pub returns-clause-made : goal.returns-clause-made
returns-clause-made g c =
    let all = left_in c.args.lines.now in
    let left = left_in c.open.new.lines in
    let now = left_in c.do_lines-done.new.lines in
    let first = c.in_ok-session.ensures.made in
    rw c.and.ensures (and_made c.do_lines-done.result c.do_lines-done.new.session _ _
    (λ then. (then.0, and_more None (Some first.0) (Some then.0) all left now (opening first.0 all left first.1) then.1, then.2))
    (c.do_lines-done.ensures.made first.0 first.2))

pub returns-clause-fault : goal.returns-clause-fault
returns-clause-fault g c =
    let all = left_in c.args.lines.now in
    let left = left_in c.open.new.lines in
    let now = left_in c.do_lines-done.new.lines in
    let first = c.in_ok-session.ensures.made in
    rw c.and.ensures (and_fault c.do_lines-done.result _ _ _ (λ fault then. behind_others None (Some first.0) all left now fault (opening first.0 all left first.1) then)
    (c.do_lines-done.ensures.fault first.0 first.2))

pub returns-clause-shown : goal.returns-clause-shown
returns-clause-shown g c = λ other.
    let all = left_in c.args.lines.now in
    let left = left_in c.open.new.lines in
    let now = left_in c.do_lines-done.new.lines in
    let count = line_count c.args.lines.now in
    let first = c.in_ok-session.ensures.made in
    let behind = c.do_lines-done.ensures.shown first.0 first.2 (λ e. other (and_error _ _ _ _ c.and.ensures e)) in
    let then = subst (λ (n : ℕ). ShowsLines g.W.SetUpObserver.takes n (Some first.0) behind.0 left now (c.args.watch.now, c.args.printed.now)
    (c.do_lines-done.new.watch, c.do_lines-done.new.printed)) c.open.ensures.count behind.1 in (
      behind.0,
      and_shown g.W.SetUpObserver.takes count None (Some first.0) behind.0 all left now _ _ _
          (opening_shown g.W.SetUpObserver.takes count first.0 all left _ first.1) then,
    )

pub returns-in_err-session-clause-shown : goal.returns-in_err-session-clause-shown
returns-in_err-session-clause-shown g c = λ other. (None, quiet_lines g.W.SetUpObserver.takes _ _ _ _ c.in_err-session.ensures.unopened)
