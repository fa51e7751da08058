-- A holder that sent word of its access, and was sent word of a change before it did more.
use Rattle.vfs_gates.proofs.Prelude.{Bool, Called, ChangeMount, Config, DealtNumbers, GateError, HasDone, HaveHistory, Ok, Op, Reply, Result}
use Rattle.vfs_gates.proofs.Prelude.{SeatedTask, StaySeen, [], ap, arith, own_number, own_view, refl, stays_seen_on, subst, sym, true, ℕ, ◌∙◌, ◌∷◌}
use Rattle.vfs_gates.proofs.Prelude.{◌≡◌, ◌≤◌}
use Rattle.vfs_gates.{proofs.several_tasks.{Begun.call_begins, Keeping.change_refused}, specs.Meetings.{BeginsIn, Encloses, HoldsAt}}
use Rattle.gate_world.specs.Views.{held_at}

-- who holds an access has it by its own number's list
own_done : (m : ℕ) (items : DealtNumbers) → 1 ≤ held_at (own_view items) m → HasDone (own_number items) (own_view items).actions items
own_done m [] holds = absurd (omega arith)
own_done m (x ∷ xs) holds = record { place = 0; view = x.view; there = refl; done = refl }

pub heard_refused : (m : ℕ) (wait : Bool) (take next : Op) (idle there asks ends old left : SeatedTask) (granted answer : Result Reply GateError)
    (reply : Reply) → Called take idle there granted → HoldsAt m there → Called (ChangeMount m true wait) old left (Ok reply) →
    old.config ≡ there.config → StaySeen there.seen old.seen → Called next asks ends answer → asks ≡ record there { seen = asks.seen } →
    StaySeen left.seen asks.seen → ⊥
heard_refused m wait take next idle there asks ends old left granted answer reply took holds change config heard then same back =
    let begins : BeginsIn asks.config asks.items asks.seen ends.seen = call_begins next asks ends answer then in
    let c_took : idle.config ≡ old.config = sym (ap (λ (s : SeatedTask). s.config) took.after) ∙ sym config in
    let c_then : asks.config ≡ old.config = ap (λ (s : SeatedTask). s.config) same ∙ sym config in
    let items : asks.items ≡ there.items = ap (λ (s : SeatedTask). s.items) same in
    let around : Encloses there.items there.items old left = record {
      first_seen = there.seen;
      first = subst (λ (c : Config). HaveHistory c there.items there.seen) c_took took.history;
      saw = heard;
      last_seen = begins.began ∷ [];
      last = subst (λ (c : Config). HaveHistory c there.items (begins.began ∷ [])) c_then
          (subst (λ (l : DealtNumbers). HaveHistory asks.config l (begins.began ∷ [])) items begins.all);
      sees = stays_seen_on left.seen asks.seen (begins.began ∷ []) back begins.from;
    } in
    change_refused m (own_number there.items) wait old left reply (own_view there.items).actions there.items there.items change around
    (own_done m there.items holds) (own_done m there.items holds) holds
