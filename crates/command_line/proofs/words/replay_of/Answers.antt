use Rattle.std.proofs.{Common.{Option, Some, ap, codes, false, option_map, refl, sym, true, ◌∙◌, ◌≡◌}, lemmas.Bool.false≢true}
use Rattle.clap.{proofs.WalkLemmas.first_value-rows, specs.Words.{found_of, rows_of}}
use Rattle.command_line.{proofs.Parsing.{plain_rows, same_form, same_replay, unmapped}, specs.declared.words.{Replay.Replay, ReplayForm.ReplayForm}}
use Rattle.command_line.proofs.words.replay_of.Goals as goal

pub returns-in_default-clause-plain : goal.returns-in_default-clause-plain
returns-in_default-clause-plain g c h =
    let plain = plain_rows (rows_of (found_of c.args.replay.now)) h in
    absurd (c.in_default.not-Some _ (c.form_of.ensures.plain plain.events plain.columns plain.json plain.html))

pub returns-clause-plain : goal.returns-clause-plain
returns-clause-plain g c h =
    let found = found_of c.args.replay.now in
    let plain = plain_rows (rows_of found) h in
    record {
      replay = _;
      is = refl;
      plain = record {
        form = same_form _ _ (sym c.in-Some.is ∙ c.form_of.ensures.plain plain.events plain.columns plain.json plain.html);
        core = c.is_on.ensures.off plain.gates;
      };
      of_input = unmapped _ _ (c.get_str.ensures ∙ first_value-rows found (codes "FILE") ∙ plain.file);
    }

pub returns-clause-only : goal.returns-clause-only
returns-clause-only g c h =
    let found = found_of c.args.replay.now in
    let same = same_replay _ _ h.is in
    let some : ReplayForm → Option ReplayForm = Some in
    let form = c.in-Some.is ∙ ap some (ap (λ (r : Replay). r.form) same ∙ h.plain.form) in
    let core : c.is_on.result ≡ false = ap (λ (r : Replay). r.over_gates) same ∙ h.plain.core in
    record {
      file = sym (first_value-rows found (codes "FILE")) ∙ sym c.get_str.ensures
          ∙ ap (option_map (λ s. s.now)) (ap (λ (r : Replay). r.file) same ∙ h.of_input);
      events = c.form_of.ensures.events form;
      columns = c.form_of.ensures.columns form;
      json = c.form_of.ensures.json form;
      html = c.form_of.ensures.html form;
      core = λ on. let bad : false ≡ true = sym core ∙ c.is_on.ensures.on on in absurd (false≢true bad);
    }
