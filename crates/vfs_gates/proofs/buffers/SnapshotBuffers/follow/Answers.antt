-- a step of a snapshot is noted, and one of any other operation leaves the room as it is
use Rattle.vfs_gates.proofs.Prelude.{BufferWords, BuffersMatch, None, Trees, after_of, ap, items_after, phase_after, subst, sym, words_in, ◌∙◌}
use Rattle.vfs_gates.{proofs.{Noting.follows_taking, Rooming.{follows_other, not_snapshot, not_tree}}, specs.Buffers.is_of_snapshot}
use Rattle.vfs_gates.proofs.buffers.SnapshotBuffers.follow.Goals as goal

pub returns-in_default : goal.returns-in_default
returns-in_default c nodes begins hook found items there is h =
    follows_other (words_in c.args.self.now) c.args.phase c.args.event.found (not_tree c.args.phase c.in_default.not-Trees) nodes begins hook found items
    there h

pub returns-in_default-call : goal.returns-in_default-call
returns-in_default-call c nodes begins hook found items there is h =
    follows_other (words_in c.args.self.now) c.args.phase c.args.event.found
    (ap is_of_snapshot c.in-Trees.is ∙ not_snapshot c.in-Trees.call c.in_default-call.not-Snapshot) nodes begins hook found items there h

pub returns-in-Snapshot : goal.returns-in-Snapshot
returns-in-Snapshot c nodes begins hook found items there is h =
    subst (λ (r : BufferWords). BuffersMatch nodes r None (phase_after (after_of c.args.phase c.args.event.found hook).0)
    (items_after begins c.args.phase hook found items)) (sym c.note.ensures)
    (follows_taking (words_in c.args.self.now) c.args.phase c.in-Snapshot.snapshot (c.in-Trees.is ∙ ap Trees c.in-Snapshot.is) c.args.event
    nodes begins hook found items there is h)
