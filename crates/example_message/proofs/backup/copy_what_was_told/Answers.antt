-- What was told is seen once the word is taken in, and from then on.
use Rattle.std.proofs.{Common.{Ok, ap, subst, sym, ◌∙◌}, Math.Logic.∥∥₁_map}
use Rattle.vfs_gates.{proofs.{Grown.{both_stay_seen, stays_seen_on}, Rounds.seen_after}, specs.{Grown.StaySeen, Meetings.Config}}
use Rattle.vfs_gates.specs.TaskStates.{SeatedTask}
use Rattle.example_message.{proofs.Telling.{copied_then, told_on}, specs.Words.HadWritten}
use Rattle.example_message.proofs.backup.copy_what_was_told.Goals as goal

pub returns-clause-told : goal.returns-clause-told
returns-clause-told g c =
    let word = c.args.word in
    let config = c.args.gates.now.words.config in
    let old = c.args.task.now in
    let took = c.take_in.new.self in
    let frozen = c.freeze.new.self in
    let told = subst (λ (k : Config). ∥ HadWritten k word.writer word.writes word.receipt.seen ∥₁) (sym c.requires.these.1) word.told in
    let heard : StaySeen word.receipt.seen took.seen =
    subst (StaySeen word.receipt.seen) (sym (ap (λ (s : SeatedTask). s.seen) c.take_in.ensures)) (both_stay_seen old.seen word.receipt.seen).1 in
    let stays = stays_seen_on word.receipt.seen took.seen frozen.seen heard (seen_after {outcome = Ok tt} c.in_ok-freeze.ensures.replies) in
    copied_then config word.writer word.writes frozen c.copy_tree-copied.new.task c.thaw.new.self c.copy_tree-copied.result
    (c.in_ok-freeze.ensures.replies.config ∙ (ap (λ (s : SeatedTask). s.config) c.take_in.ensures ∙ c.requires.from.1))
    (∥∥₁_map told (λ its. told_on config word.writer word.writes word.receipt.seen frozen.seen its stays)) c.copy_tree-copied.ensures.copied
    (seen_after {outcome = Ok tt} c.in_ok-thaw.ensures.replies)
