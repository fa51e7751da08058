-- each step of a down-read is one of its level
use Rattle.std.proofs.Common.{Bool, Option, Some, ap, arith, false, if◌then◌else◌, refl, subst, sym, true, ℕ, ◌-◌, ◌<◌, ◌==◌, ◌∙◌, ◌≡◌}
use Rattle.std.proofs.lemmas.Grind.{common_steps}
use Rattle.{access_model.specs.declared.replies.Next.TheVariants.Go, cpu_words.specs.Touches.wrap_add}
use Rattle.finite_sums.{proofs.Totals.update_same, specs.Sums.update}
use Rattle.percpu_rwsem.specs.{Readers.{at_down_read, left_blocked, step_found, step_in}, SyncWords.unpack, declared.readers.DownRead.DownRead}
use Rattle.percpu_rwsem.specs.declared.readers.DownReadStep.{DownReadStep, TheVariants.{CountsDown, CountsUpFast, CountsUpSlow, EntersSection}}
use Rattle.percpu_rwsem.specs.declared.readers.DownReadStep.TheVariants.{LeavesAdmitted, LeavesBlocked, LoadsBlock, LoadsSync}
use Rattle.percpu_rwsem.specs.declared.sync_word.{GpState.{GpState, TheVariants.{Enter, Exit, Idle, Passed, Replay}}, SyncWord.SyncWord}
use Rattle.freeze_laws.specs.levels.{Changes.{state_found, state_found_in}, Events.{AddsFast, FindsIdle, Happens, Stays, SyncEvent, SyncLevel}}
use Rattle.freeze_laws.specs.levels.{Events.{SyncStep, TurnsSection}, Operations.{DownReadIsThere, DownReadsAreThere, by_next, down_read_inside}}
use Rattle.freeze_laws.specs.levels.{Operations.down_read_role, Roles.{Fast, Out, SyncRole, fast}}

module _ (tasks t : ℕ) (lt : t < tasks) (l : SyncLevel) where
  -- a step of this task
  step_by : (l' : SyncLevel) (k : SyncEvent) → Happens tasks t l l' k → SyncStep tasks l l'
  step_by l' k h = record { task = t; there = lt; kind = k; happens = h }

  -- one that leaves it as it was
  unturned : (r : SyncRole) (n : ℕ) → l.at t ≡ r → l.inside t ≡ n →
      SyncStep tasks l (record l { at = update l.at t r; inside = update l.inside t n })
  unturned r n here in_it =
      let p : update l.at t r ≡ l.at = ap (update l.at t) (sym here) ∙ update_same l.at t in
      let i : update l.inside t n ≡ l.inside = ap (update l.inside t) (sym in_it) ∙ update_same l.inside t in
      step_by _ Stays (λ q. record { sync = l.sync; block = l.block; full = l.full; section = l.section; inside = i q; at = p q })

  -- one that begins or ends its section
  turned : (n : ℕ) → l.at t ≡ Out → n ≡ 1 - l.inside t →
      SyncStep tasks l (record l
      { section = update l.section t (wrap_add (l.section t) 1); at = update l.at t Out; inside = update l.inside t n })
  turned n out e =
      let p : update l.at t Out ≡ l.at = ap (update l.at t) (sym out) ∙ update_same l.at t in
      step_by _ TurnsSection (
        ap fast out,
        λ q. record l { section = update l.section t (wrap_add (l.section t) 1); at = p q; inside = update l.inside t (e q) },
      )

  -- a load of a word in this state
  state_by : (s : GpState) → state_found l.sync ≡ Some s → l.at t ≡ Out → l.inside t ≡ 1 → SyncStep tasks l
      (record l { at = update l.at t (down_read_role (step_in s)); inside = update l.inside t (down_read_inside (step_in s)) })
  state_by Idle f out in_it =
      let i : update l.inside t 1 ≡ l.inside = ap (update l.inside t) (sym in_it) ∙ update_same l.inside t in
      step_by _ FindsIdle (out, in_it, f, λ q. record l { at = update l.at t Fast; inside = i q })
  state_by Enter f out in_it = unturned Out 1 out in_it
  state_by Passed f out in_it = unturned Out 1 out in_it
  state_by Exit f out in_it = unturned Out 1 out in_it
  state_by Replay f out in_it = unturned Out 1 out in_it

  -- a load of the sync word
  sync_by : (o : Option SyncWord) → unpack l.sync ≡ o → l.at t ≡ Out → l.inside t ≡ 1 → SyncStep tasks l
      (record l { at = update l.at t (down_read_role (step_found o)); inside = update l.inside t (down_read_inside (step_found o)) })
  sync_by o e out in_it = grind (arith, common_steps, unturned, state_by, state_found_in)

  -- the addition on the fast path
  added_by : l.at t ≡ Fast → l.inside t ≡ 1 → SyncStep tasks l (record l { at = update l.at t Out; inside = update l.inside t 1 })
  added_by here in_it =
      let i : update l.inside t 1 ≡ l.inside = ap (update l.inside t) (sym in_it) ∙ update_same l.inside t in
      step_by _ AddsFast (here, λ q. record l { at = update l.at t Out; inside = i q })

-- a load of `block` leaves a down-read off the fast path
block_role : (r : DownRead) (b : Bool) → by_next (λ (x : DownRead). down_read_role x.step) Out
    (if b then Go (at_down_read r LeavesAdmitted) else Go (at_down_read r CountsDown)) ≡ Out
block_role r true = refl
block_role r false = refl

-- and inside its section
block_inside : (r : DownRead) (b : Bool) → by_next (λ (x : DownRead). down_read_inside x.step) 0
    (if b then Go (at_down_read r LeavesAdmitted) else Go (at_down_read r CountsDown)) ≡ 1
block_inside r true = refl
block_inside r false = refl

-- so does the end of its section, whether it begins again or not
blocked_role : (r : DownRead) (b : Bool) → by_next (λ (x : DownRead). down_read_role x.step) Out (left_blocked r b) ≡ Out
blocked_role r true = refl
blocked_role r false = refl

-- but not inside it
blocked_inside : (r : DownRead) (b : Bool) → by_next (λ (x : DownRead). down_read_inside x.step) 0 (left_blocked r b) ≡ 0
blocked_inside r true = refl
blocked_inside r false = refl

-- each step of a down-read
down_read_there : (tasks other : ℕ) (l : SyncLevel) (r : DownRead) (s : DownReadStep) → r.task < tasks →
    l.at r.task ≡ down_read_role s → l.inside r.task ≡ down_read_inside s → DownReadIsThere tasks other l r s
down_read_there tasks other l r EntersSection lt here in_it = turned tasks r.task lt l 1 here (omega (arith, in_it))
down_read_there tasks other l r LoadsSync lt here in_it = sync_by tasks r.task lt l (unpack l.sync) refl here in_it
down_read_there tasks other l r CountsUpFast lt here in_it = added_by tasks r.task lt l here in_it
down_read_there tasks other l r CountsUpSlow lt here in_it = unturned tasks r.task lt l Out 1 here in_it
down_read_there tasks other l r LoadsBlock lt here in_it =
    unturned tasks r.task lt l _ _ (here ∙ sym (block_role r (l.block == 0))) (in_it ∙ sym (block_inside r (l.block == 0)))
down_read_there tasks other l r CountsDown lt here in_it = unturned tasks r.task lt l Out 1 here in_it
down_read_there tasks other l r LeavesAdmitted lt here in_it = turned tasks r.task lt l 0 here (omega (arith, in_it))
down_read_there tasks other l r LeavesBlocked lt here in_it =
    let e : by_next (λ (x : DownRead). down_read_inside x.step) 0 (left_blocked r r.wait) ≡ 1 - l.inside r.task =
    blocked_inside r r.wait ∙ omega (arith, in_it) in
    subst (λ x. SyncStep tasks l (record l {
      section = update l.section r.task (wrap_add (l.section r.task) 1);
      at = update l.at r.task x;
      inside = update l.inside r.task (by_next (λ (y : DownRead). down_read_inside y.step) 0 (left_blocked r r.wait));
    })) (sym (blocked_role r r.wait)) (turned tasks r.task lt l _ here e)

-- so each step of a down-read is there
pub down_reads_are_there : DownReadsAreThere
down_reads_are_there tasks other l r lt here in_it = down_read_there tasks other l r r.step lt here in_it
