-- A snapshot whose steps stand in a line: where they lead, and what its task notes of them.
use Rattle.vfs_gates.proofs.Prelude.{Accesses, Bool, BufferWords, BuffersMatch, Config, DealtNumbers, Done, Event, GateError, Go, List, LoadsKids}
use Rattle.vfs_gates.proofs.Prelude.{LoadsNode, LoadsStage, LoadsUsed, Locks, Next, None, Ok, Op, Option, Phase, Releases, Reply, Result, Some}
use Rattle.vfs_gates.proofs.Prelude.{TreeWords, Trees, after_of, ap, arith, at_snapshot, completed, event_of, false, first_phase, if◌then◌else◌}
use Rattle.vfs_gates.proofs.Prelude.{is_some, items_after, length, map_next, not, phase_after, refl, snapshot_at, state_at, subst, sym, true}
use Rattle.vfs_gates.proofs.Prelude.{unpacked, with_words, ℕ, ◌<◌, ◌∙◌, ◌≡◌, ◌≤◌}
use Rattle.std.proofs.{Common.slice_set as set, lemmas.Bool.Decides.nat_tests}
use Rattle.access_model.specs.declared.replies.Reply.TheVariants.{Tree as TreeReply}
use Rattle.gate_steps.{proofs.call_events.Leading.{led_nowhere, led_on}, specs.call_events.{Led.{Led, Stands, TaskSeat}, Turns.StateAgrees}}
use Rattle.gate_steps.specs.declared.call_events.words.GateWords.{GateWords}
use Rattle.gate_world.specs.{Accesses.accesses_after, declared.operations.Op.TheVariants.Snapshot as SnapshotOp}
use Rattle.gated_tree.specs.{Phases.{kids_step, node_step, snapshot_next}, declared.phases.TreePhase.TheVariants.Snapshot as Snapshots}
use Rattle.gated_tree.specs.declared.snapshots.Snapshot.{Snapshot}
use Rattle.node_words.specs.Nodes.{node_after}
use Rattle.vfs_gates.proofs.{Calling.{Call, idle, items_of, not_begun, same}, Noting.follows_taking, Taking.adds_none, Waiting.has_number}
use Rattle.vfs_gates.specs.{Buffers.after_noting, Noted.{Noted, with_kids, with_nodes}}

pub taking_leaves : (accesses : Accesses) (s : Snapshot) (found : ℕ) →
    accesses ≡ accesses_after accesses (after_of (Trees (Snapshots s)) found (Ok tt)).1
taking_leaves accesses s found = ap (λ o. accesses_after accesses o) (sym (adds_none s s.step found))

-- a node that is one is followed by the next, or by the children of the first; the children of a node by those of the next, or by the end
pub node_on : (s : Snapshot) (node next found : ℕ) → true ≡ is_some (unpacked found) → Some next ≡ node_after node s.nodes →
    (after_of (snapshot_at s (LoadsNode node)) found (Ok tt)).0 ≡ Go (snapshot_at s (LoadsNode next))
node_on s node next found there is =
    ap (λ b. map_next Trees (map_next Snapshots (if b then Go (at_snapshot s (node_step (node_after node s.nodes))) else Go (at_snapshot s (LoadsNode node)))))
    (sym there) ∙
    ap (λ o. Go (snapshot_at s (node_step o))) (sym is)

pub node_last : (s : Snapshot) (node found : ℕ) → true ≡ is_some (unpacked found) → None ≡ node_after node s.nodes →
    (after_of (snapshot_at s (LoadsNode node)) found (Ok tt)).0 ≡ Go (snapshot_at s (LoadsKids 0))
node_last s node found there is =
    ap (λ b. map_next Trees (map_next Snapshots (if b then Go (at_snapshot s (node_step (node_after node s.nodes))) else Go (at_snapshot s (LoadsNode node)))))
    (sym there) ∙
    ap (λ o. Go (snapshot_at s (node_step o))) (sym is)

pub node_none : (s : Snapshot) (node found : ℕ) → false ≡ is_some (unpacked found) →
    (after_of (snapshot_at s (LoadsNode node)) found (Ok tt)).0 ≡ Go (snapshot_at s (LoadsNode node))
node_none s node found there =
    ap (λ b. map_next Trees (map_next Snapshots (if b then Go (at_snapshot s (node_step (node_after node s.nodes))) else Go (at_snapshot s (LoadsNode node)))))
    (sym there)

pub kids_on : (s : Snapshot) (node next found : ℕ) → Some next ≡ node_after node s.nodes →
    (after_of (snapshot_at s (LoadsKids node)) found (Ok tt)).0 ≡ Go (snapshot_at s (LoadsKids next))
kids_on s node next found is = ap (λ o. Go (snapshot_at s (kids_step o))) (sym is)

pub kids_last : (s : Snapshot) (node found : ℕ) → None ≡ node_after node s.nodes →
    (after_of (snapshot_at s (LoadsKids node)) found (Ok tt)).0 ≡ Go (snapshot_at s (Releases (Ok TreeReply)))
kids_last s node found is = ap (λ o. Go (snapshot_at s (kids_step o))) (sym is)

-- a task has a number
numbered : {c : Config} {begins : Option Op} {phase : Phase} {accesses : Accesses} {items : DealtNumbers} →
    StateAgrees c begins (Some phase) accesses items → 1 ≤ length items
numbered {c} {begins} {phase} {accesses} {items} agrees =
    has_number agrees.number c begins (state_at (Some phase) accesses) agrees.flags items agrees.ghost_agrees

-- what a line of a snapshot has noted
module _ {gates : GateWords} {begins : Option Op} {accesses : Accesses} {seat left : TaskSeat} where
  -- a step, which was noted
  noted_by : (s : Snapshot) (found : ℕ) →
      after_of (Trees (Snapshots s)) (event_of (snapshot_next s s.step).0 (snapshot_next s s.step).1 found).found (Ok tt) ≡
      after_of (Trees (Snapshots s)) found (Ok tt) →
      Led gates begins (Go (Trees (Snapshots s))) accesses seat (after_of (Trees (Snapshots s)) found (Ok tt)).0 accesses left →
      left.me.0.items ≡ items_after begins (Trees (Snapshots s)) (Ok tt) found seat.me.0.items →
      Stands gates begins (Go (Trees (Snapshots s))) accesses seat →
      Noted gates begins (Go (Trees (Snapshots s))) accesses seat (λ r. Unit {0}) (after_of (Trees (Snapshots s)) found (Ok tt)).0 left
      (after_noting s (event_of (snapshot_next s s.step).0 (snapshot_next s s.step).1 found))
  noted_by s found comes led items stands = record {
    led = led;
    tells = λ r were h.
        let phase : Phase = Trees (Snapshots s) in
        let event : Event = event_of (snapshot_next s s.step).0 (snapshot_next s s.step).1 found in
        let P : Next Phase × DealtNumbers → Type 0 = λ z. BuffersMatch gates.config.nodes (after_noting s event r) None (phase_after z.0) z.1 in
        subst P (λ i. ((comes i).0, sym items i))
        (follows_taking r phase s refl event gates.config.nodes begins (Ok tt) found seat.me.0.items (numbered stands.agrees) refl h);
  }

  -- what was before, and what the steps have made of it, said otherwise
  pub noted_as : {a b : Next Phase} {Were Are : BufferWords → Type 0} {made gives : BufferWords → BufferWords} →
      ((r : BufferWords) → Are r → Were r × (made r ≡ gives r)) → Noted gates begins a accesses seat Were b left made →
      Noted gates begins a accesses seat Are b left gives
  noted_as {b = b} same noted = record {
    led = noted.led;
    tells = λ r were h.
        subst (λ (z : BufferWords). BuffersMatch gates.config.nodes z None (phase_after b) left.me.0.items) (same r were).1 (noted.tells r (same r were).0 h);
  }

  -- what comes next, said otherwise
  pub noted_to : {a b d : Next Phase} {Were : BufferWords → Type 0} {made : BufferWords → BufferWords} → b ≡ d →
      Noted gates begins a accesses seat Were b left made → Noted gates begins a accesses seat Were d left made
  noted_to {a} {Were = Were} {made = made} is noted =
      subst (λ (n : Next Phase). Noted gates begins a accesses seat Were n left made) is noted

  -- one line after the other
  pub noted_on : {a b d : Next Phase} {sd : TaskSeat} {Were Are : BufferWords → Type 0} {made gives : BufferWords → BufferWords} →
      Noted gates begins a accesses seat Were b left made → ((r : BufferWords) → Were r → Are (made r)) →
      Noted gates None b accesses left Are d sd gives → Noted gates begins a accesses seat Were d sd (λ r. gives (made r))
  noted_on {made = made} one on two = record {
    led = led_on one.led two.led;
    tells = λ r were h. two.tells (made r) (on r were) (one.tells r were h);
  }

  -- a step that loads no word of the tree leaves the buffers as they are
  pub unnoted : {Were : BufferWords → Type 0} (s : Snapshot) (found : ℕ) →
      ((r : BufferWords) → after_noting s (event_of (snapshot_next s s.step).0 (snapshot_next s s.step).1 found) r ≡ r) →
      after_of (Trees (Snapshots s)) (event_of (snapshot_next s s.step).0 (snapshot_next s s.step).1 found).found (Ok tt) ≡
      after_of (Trees (Snapshots s)) found (Ok tt) →
      Led gates begins (Go (Trees (Snapshots s))) accesses seat (after_of (Trees (Snapshots s)) found (Ok tt)).0 accesses left →
      left.me.0.items ≡ items_after begins (Trees (Snapshots s)) (Ok tt) found seat.me.0.items →
      Stands gates begins (Go (Trees (Snapshots s))) accesses seat →
      Noted gates begins (Go (Trees (Snapshots s))) accesses seat Were (after_of (Trees (Snapshots s)) found (Ok tt)).0 left (λ r. r)
  unnoted s found stays comes led items stands = noted_as (λ r were. (tt, stays r)) (noted_by s found comes led items stands)

  -- the loads of the blocks charged, of a node, and of its children, which are the last ones or not
  pub used_noted : (s : Snapshot) (found : ℕ) (words : TreeWords) →
      Led gates begins (Go (snapshot_at s LoadsUsed)) accesses seat (after_of (snapshot_at s LoadsUsed) found (Ok tt)).0 accesses left →
      left.me.0.items ≡ items_after begins (snapshot_at s LoadsUsed) (Ok tt) found seat.me.0.items →
      Stands gates begins (Go (snapshot_at s LoadsUsed)) accesses seat →
      Noted gates begins (Go (snapshot_at s LoadsUsed)) accesses seat (λ r. r.next ≡ words) (after_of (snapshot_at s LoadsUsed) found (Ok tt)).0 left (with_words (record words { used = found }))
  used_noted s found words led items stands =
      noted_as (λ r were. (tt, λ i. with_words (record (were i) { used = found }) r)) (noted_by (at_snapshot s LoadsUsed) found refl led items stands)

  pub node_noted : (s : Snapshot) (node found : ℕ) (nodes : List ℕ) →
      Led gates begins (Go (snapshot_at s (LoadsNode node))) accesses seat (after_of (snapshot_at s (LoadsNode node)) found (Ok tt)).0 accesses left →
      left.me.0.items ≡ items_after begins (snapshot_at s (LoadsNode node)) (Ok tt) found seat.me.0.items →
      Stands gates begins (Go (snapshot_at s (LoadsNode node))) accesses seat →
      Noted gates begins (Go (snapshot_at s (LoadsNode node))) accesses seat (λ r. r.next.nodes ≡ nodes) (after_of (snapshot_at s (LoadsNode node)) found (Ok tt)).0 left (with_nodes (set nodes node found))
  node_noted s node found nodes led items stands =
      noted_as (λ r were. (tt, λ i. with_nodes (set (were i) node found) r)) (noted_by (at_snapshot s (LoadsNode node)) found refl led items stands)

  pub kids_noted : (s : Snapshot) (node found : ℕ) (kids : List ℕ) (o : Option ℕ) → o ≡ node_after node s.nodes →
      Led gates begins (Go (snapshot_at s (LoadsKids node))) accesses seat (after_of (snapshot_at s (LoadsKids node)) found (Ok tt)).0 accesses left →
      left.me.0.items ≡ items_after begins (snapshot_at s (LoadsKids node)) (Ok tt) found seat.me.0.items →
      Stands gates begins (Go (snapshot_at s (LoadsKids node))) accesses seat →
      Noted gates begins (Go (snapshot_at s (LoadsKids node))) accesses seat (λ r. r.next.kids ≡ kids) (after_of (snapshot_at s (LoadsKids node)) found (Ok tt)).0 left
      (λ r. if not (is_some o) then completed (with_kids (set kids node found) r) else with_kids (set kids node found) r)
  kids_noted s node found kids o is led items stands =
      noted_as (λ r were. (
        tt,
        λ i. if not (is_some (sym is i)) then completed (with_kids (set (were i) node found) r) else
            with_kids (set (were i) node found) r,
      )) (noted_by (at_snapshot s (LoadsKids node)) found refl led items stands)

-- no step
pub noted_nowhere : {Were : BufferWords → Type 0} {made : BufferWords → BufferWords} (gates : GateWords) (a : Next Phase) (accesses : Accesses)
    (seat : TaskSeat) → ((r : BufferWords) → Were r → r ≡ made r) → Noted gates None a accesses seat Were a seat made
noted_nowhere gates a accesses seat same = record {
  led = led_nowhere gates a accesses seat;
  tells = λ r were h.
      subst (λ (z : BufferWords). BuffersMatch gates.config.nodes z None (phase_after a) seat.me.0.items) (same r were) h;
}

-- `umount` was free, and the stage is the last
pub lock_free : (s : Snapshot) (found : ℕ) → found ≡ 0 → (after_of (snapshot_at s Locks) found (Ok tt)).0 ≡ Go (snapshot_at s LoadsStage)
lock_free s found is = subst (λ n. (after_of (snapshot_at s Locks) n (Ok tt)).0 ≡ Go (snapshot_at s LoadsStage)) (sym is) refl

pub is_frozen : (s : Snapshot) (found : ℕ) → found ≡ 4 → (after_of (snapshot_at s LoadsStage) found (Ok tt)).0 ≡ Go (snapshot_at s LoadsUsed)
is_frozen s found is = subst (λ n. (after_of (snapshot_at s LoadsStage) n (Ok tt)).0 ≡ Go (snapshot_at s LoadsUsed)) (sym is) refl

pub next_node : (node next nodes : ℕ) → Some next ≡ node_after node nodes → next < nodes
next_node node next nodes is = grind (arith, nat_tests)

-- a snapshot is of as many nodes as there are
nodes_in : Phase → ℕ
nodes_in (Trees (Snapshots s)) = s.nodes
nodes_in phase = 0

pub nodes_as_begun : (s : Snapshot) (c : Config) (t : ℕ) (wait : Bool) → snapshot_at s Locks ≡ first_phase c t (SnapshotOp wait) → s.nodes ≡ c.nodes
unfolding nodes_in
nodes_as_begun s c t wait is = ap nodes_in is

-- a call that takes a snapshot in a line, whose buffers tell of what comes next where they told of its beginning
module _ (call : Call) {left : DealtNumbers} {begun gone : BufferWords} (next : Next Phase)
    (tells : BuffersMatch call.gates.nodes begun (Some call.op) (Some call.first) (items_of call) →
    BuffersMatch call.gates.nodes gone None (phase_after next) left) where
  -- so they tell of it as the task notes it
  pub loaded_buffers : BuffersMatch call.task.config.nodes begun (Some call.op) (Some call.first) (items_of call) → (o : Option Phase) →
      phase_after next ≡ o → BuffersMatch call.task.config.nodes gone call.task.begins o left
  loaded_buffers h o is =
      let P : Config × Option Op × Option Phase → Type 0 = λ z. BuffersMatch z.0.nodes gone z.1 z.2 left in
      subst P (λ i. (sym (same call) i, sym (not_begun call) i, is i))
      (tells (subst (λ (d : Config). BuffersMatch d.nodes begun (Some call.op) (Some call.first) (items_of call)) (same call) h))

  -- or of none, where it was done
  pub loaded_done : BuffersMatch call.task.config.nodes begun (Some call.op) (Some call.first) (items_of call) → (answer : Result Reply GateError) →
      next ≡ Done answer → BuffersMatch call.task.config.nodes gone call.task.begins call.task.state.phase left
  loaded_done h answer is = loaded_buffers h call.task.state.phase (ap (λ (n : Next Phase). phase_after n) is ∙ sym (idle call))
