use Rattle.std.proofs.{Common.{ap, map, string_bytes, subst, ◌∙◌}, lemmas.Result.IfOk-weaker}
use Rattle.clap.specs.Words.{App, is_simple, subcommand_of, takes}
use Rattle.command_line.{proofs.Parsing.{and_left, and_right, is_known}, specs.CommandLine.{IsBareReplay, is_plain_replay, mntgate_app}}
use Rattle.command_line.proofs.words.read_words.Goals as goal

pub returns-in-Ok-clause-plain : goal.returns-in-Ok-clause-plain
returns-in-Ok-clause-plain g c h =
    let words = map string_bytes c.args.words.now in
    let known = c.in_ok-command.ensures in
    let is = (c.in-Ok.ensures.matches (ap is_simple known ∙ is_known)).1 ∙ ap (λ (a : App). subcommand_of a words) known in
    (c.request_of.ensures.plain (ap is_plain_replay is ∙ and_right (takes mntgate_app words) _ h))

pub returns-in-Ok-clause-only : goal.returns-in-Ok-clause-only
returns-in-Ok-clause-only g c =
    let words = map string_bytes c.args.words.now in
    let known = c.in_ok-command.ensures in
    let is = (c.in-Ok.ensures.matches (ap is_simple known ∙ is_known)).1 ∙ ap (λ (a : App). subcommand_of a words) known in
    IfOk-weaker c.request_of.result _ _ (λ asked how p. subst IsBareReplay is (how p)) c.request_of.ensures.only

pub returns-in-Err-clause-plain : goal.returns-in-Err-clause-plain
returns-in-Err-clause-plain g c h =
    let words = map string_bytes c.args.words.now in
    let taken = ap (λ (a : App). takes a words) c.in_ok-command.ensures ∙ and_left (takes mntgate_app words) _ h in
    IfOk-weaker c.answer_of.result _ _ (λ asked none. absurd none) (c.answer_of.ensures.memory (c.in-Err.ensures.passes taken))

pub returns-in-Err-clause-only : goal.returns-in-Err-clause-only
returns-in-Err-clause-only g c = IfOk-weaker c.answer_of.result _ _ (λ asked other plain. absurd (other plain)) c.answer_of.ensures.nothing
