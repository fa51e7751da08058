-- the last seat has all numbers, and they rest
use Rattle.vfs_gates.proofs.Prelude.{AllRest, Config, DealtNumbers, EndedWith, Entry, List, refl, slots_items, subst, sym, times, ℕ, ◌<◌, ◌∙◌, ◌≤◌}
use Rattle.gate_steps.specs.Tables.{IsClosing}
use Rattle.vfs_gates.proofs.{closed_gates.Closing.ended, gates.Gates.close.Goals.After-close}
use Rattle.vfs_gates.proofs.gates.Gates.close.Goals as goal

-- what the words and the task's numbers say of each other
ends : (c : After-close) → EndedWith c.args.self.words.config (slots_items c.close.result.words) c.args.task.items c.args.task.seen
ends c =
    let config = c.args.self.words.config in
    let seat = c.into_seat.result in
    let has = c.if-not-has_all.ensures.0 refl in
    let all : (n : ℕ) → n < config.tasks → 1 ≤ times n seat.me.0.items =
    λ n lt. subst (λ (l : DealtNumbers). 1 ≤ times n l) (sym c.into_seat.ensures.items.0)
    (has.2 n (subst (λ (k : Config). n < k.tasks) (sym c.requires.1) lt)) in
    let P : DealtNumbers × List (List Entry) → Type 0 = λ z. EndedWith config (slots_items c.close.result.words) z.0 z.1 in
    subst P (λ i. (c.into_seat.ensures.items.0 i, c.into_seat.ensures.items.1 i))
    (ended config seat.me.0 (slots_items c.close.result.words)
    (subst (λ (k : Config). IsClosing k (slots_items c.close.result.words) seat.me.0) c.args.self.words.key c.close.ensures.closing)
    (subst (λ (k : Config). AllRest k seat.me.0.items) c.requires.1 (c.into_seat.ensures.rested (has.0, has.1))) all)

pub invariant_of-result : goal.invariant_of-result
invariant_of-result c = (
  c.args.self.words.within,
  c.close.ensures.full.0,
  c.close.ensures.counts.0 ∙ c.args.self.words.words,
  c.close.ensures.counts.1 ∙ c.args.self.words.no_slots,
  (ends (goal.at.invariant_of-result c).After-close).ended,
)

pub returns-clause-closed : goal.returns-clause-closed
returns-clause-closed c = (c.if-not-has_all.ensures.0 refl, refl, ends (goal.at.returns-clause-closed c).After-close)
