-- What whole calls leave of what a task holds.
use Rattle.vfs_gates.proofs.Prelude.{Action, AreMoves, Bool, Called, ChangeMount, Close, Config, Done, Entry, Err, Freeze, GateError, Grant}
use Rattle.vfs_gates.proofs.Prelude.{IsAsBefore, IsIdle, List, Node, None, Ok, Op, Option, RemountSb, Replies, Reply, Rests, Result, SbRo, SbRw}
use Rattle.vfs_gates.proofs.Prelude.{SeatedTask, Some, Start, Thaw, Touch, Traced, Want, WantWrite, WordName, [], actions_of, ap, cases_Bool, false}
use Rattle.vfs_gates.proofs.Prelude.{found_read_only, found_sealed, has_flag, inl, inr, own_actions, own_number, own_view, ran_items, refl}
use Rattle.vfs_gates.proofs.Prelude.{refusal_at, state_of_trace, subst, sym, told_as, true, true≢false, ℕ, ◌++◌, ◌<◌, ◌∙◌, ◌∷◌, ◌≡◌}
use Rattle.access_model.specs.declared.actions.Action.TheVariants.{Clean, Close as CloseAction, Leave, Open as OpenAction, Pass, Return}
use Rattle.access_model.specs.declared.{actions.Action.TheVariants.Stage as StageAction, replies.Reply.TheVariants.Node as NodeReply}
use Rattle.cpu_words.specs.declared.events.Touch.TheVariants.{And}
use Rattle.gate_steps.{proofs.call_events.{Asked.either_way, Effects.none_moves}, specs.call_events.Seating.DealtNumbers}
use Rattle.gate_world.specs.{Holdings.{Holdings, held_after, holdings_of}, Operations.all_levels_closed}
use Rattle.gate_world.specs.declared.operations.Op.TheVariants.{Create, DropMount, DropWrite, End, Open}
use Rattle.gate_world.specs.traces.Found.{clean_found, cleans, found_complete, found_shared}
use Rattle.vfs_gates.specs.Held.{takes_nothing}

-- an action that is neither a grant nor a return, and neither opens nor closes a file
abbrev is_free : Action → Bool
is_free (Grant gate) = false
is_free (Return gate) = false
is_free (OpenAction n) = false
is_free (CloseAction n) = false
is_free a = true

-- it leaves what is held
free_leaves : (a : Action) (held : Holdings) → is_free a ≡ true → held_after (Some a) held ≡ held
free_leaves (Grant gate) held free = absurd (true≢false (sym free))
free_leaves (Return gate) held free = absurd (true≢false (sym free))
free_leaves (OpenAction n) held free = absurd (true≢false (sym free))
free_leaves (CloseAction n) held free = absurd (true≢false (sym free))
free_leaves a held free = refl

-- each of these actions is so
abbrev AreFree : List Action → Type 0
AreFree [] = Unit {0}
AreFree (a ∷ l) = (is_free a ≡ true) × AreFree l

-- so do they all
leave_held : (l before : List Action) → AreFree l → holdings_of (l ++ before) ≡ holdings_of before
leave_held [] before free = refl
leave_held (a ∷ l) before free = free_leaves a (holdings_of (l ++ before)) free.0 ∙ leave_held l before free.1

-- the marks that a trace has cleared are such actions
clean_free : (word : WordName) (touch : Touch) (found : ℕ) (l rest : List Action) → AreFree (l ++ rest) →
    AreFree (clean_found word touch found l ++ rest)
clean_free (Node n) (And mask) found l rest h =
    either_way (λ k. AreFree (k ++ rest)) (has_flag found 4) (Clean n ∷ l) l (refl, h) h
clean_free word touch found l rest h = h

cleans_free : (trace : List Traced) (rest : List Action) → AreFree rest → AreFree (cleans trace ++ rest)
cleans_free [] rest h = h
cleans_free (e ∷ earlier) rest h =
    clean_free e.event.word e.event.touch e.event.found (cleans earlier) rest (cleans_free earlier rest h)

-- and what a freeze has added on its way to stage 4
closed_free : (trace : List Traced) → AreFree (all_levels_closed trace)
closed_free trace =
    (refl, (refl, cleans_free trace (Pass 2 ∷ (StageAction 2 ∷ (Pass 1 ∷ (StageAction 1 ∷ [])))) (refl, (refl, (refl, (refl, tt))))))

-- What an operation that takes nothing has added, where it is done.
adds_free : (op : Op) (reply : Reply) (trace : List Traced) → takes_nothing op ≡ true → AreFree (actions_of op (Ok reply) trace)
adds_free (Want m p wait) reply trace none = absurd (true≢false (sym none))
adds_free (DropMount m p) reply trace none = absurd (true≢false (sym none))
adds_free (Start i p wait) reply trace none = absurd (true≢false (sym none))
adds_free (End i p) reply trace none = absurd (true≢false (sym none))
adds_free (WantWrite m p) reply trace none = absurd (true≢false (sym none))
adds_free (DropWrite m p) reply trace none = absurd (true≢false (sym none))
adds_free (Open file) reply trace none = absurd (true≢false (sym none))
adds_free (Close file p wait) reply trace none = absurd (true≢false (sym none))
adds_free (ChangeMount m true wait) reply trace none =
    elim (cases_Bool (found_read_only m trace)) [ inl f ↦ rw f tt | inr f ↦ rw f (refl, tt) ]
adds_free (ChangeMount m false wait) reply trace none =
    elim (cases_Bool (found_read_only m trace)) [ inl f ↦ rw f (refl, tt) | inr f ↦ rw f tt ]
adds_free (RemountSb true) reply trace none =
    either_way AreFree (found_sealed trace) [] (cleans trace ++ (SbRo ∷ [])) tt (cleans_free trace (SbRo ∷ []) (refl, tt))
adds_free (RemountSb false) reply trace none = either_way AreFree (found_sealed trace) (SbRw ∷ []) [] (refl, tt) tt
adds_free (Freeze holder) reply trace none = (
  refl,
  either_way AreFree (found_complete trace) [] _ tt (refl, either_way AreFree (found_sealed trace) [] _ tt (closed_free trace)),
)
adds_free (Thaw holder) reply trace none =
    either_way AreFree (found_shared holder trace) (Leave holder ∷ []) _ (refl, tt)
    (either_way AreFree (found_sealed trace) (StageAction 0 ∷ (Leave holder ∷ [])) _ (refl, (refl, tt))
    (refl, (refl, (refl, (refl, (refl, tt))))))
adds_free (Create d kind) (NodeReply n) trace none = (refl, tt)
adds_free (Create d kind) reply trace none = tt
adds_free op reply trace none = search refl

-- the own number's actions after a whole operation: those that it has added, and the earlier ones
acted : (c : Config) (op : Op) (trace : List Traced) (answer : Result Reply GateError) (l : DealtNumbers) (added : List Action)
    (seen gone : List (List Entry)) → (state_of_trace c (own_number l) op trace).comes ≡ Done answer → AreMoves c op l seen trace gone →
    (state_of_trace c (own_number l) op trace).added ≡ added →
    (own_view (ran_items c op trace l)).actions ≡ added ++ (own_view l).actions
acted c op [] answer [] added seen gone ends moves is = absurd (let f : ⊥ = cc in f)
acted c op (e ∷ es) answer [] added seen gone ends moves is = absurd (none_moves c op es e moves.0 gone _ moves.1)
acted c op trace answer (x ∷ xs) added seen gone ends moves is = ap (λ l. l ++ x.view.actions) is

pub same_own : (c : Config) (op : Op) (trace : List Traced) (l : DealtNumbers) → own_number (ran_items c op trace l) ≡ own_number l
same_own c op trace [] = refl
same_own c op trace (x ∷ xs) = refl

-- A whole call has added its actions to the task's list.
module _ (op : Op) (old left : SeatedTask) (answer : Result Reply GateError) (k : Called op old left answer) where
  pub adds : own_actions left ≡ actions_of op answer k.trace ++ own_actions old
  adds = ap (λ (s : SeatedTask). own_actions s) k.after ∙ acted old.config op k.trace answer old.items _ old.seen left.seen k.ends k.moves k.added

  -- its task stays, and is idle
  pub stays : (left.table ≡ old.table) × (left.config ≡ old.config) × (own_number left.items ≡ own_number old.items) × IsIdle left
  stays = (
    ap (λ (s : SeatedTask). s.table) k.after,
    ap (λ (s : SeatedTask). s.config) k.after,
    ap (λ (s : SeatedTask). own_number s.items) k.after ∙ same_own old.config op k.trace old.items,
    ap (λ (s : SeatedTask). s.phase) k.after,
  )

-- one that is refused leaves a task as it was
refused_keeps : (op : Op) (old left : SeatedTask) (refusal : GateError) → Called op old left (Err refusal) → IsAsBefore old left
refused_keeps op old left refusal k =
    let there = stays op old left (Err refusal) k in record {
      table = there.0;
      config = there.1;
      own = there.2;
      idle = there.3;
      held = k.unchanged.held;
    }

-- and so does one that takes nothing
called_keeps : (op : Op) (old left : SeatedTask) (answer : Result Reply GateError) → takes_nothing op ≡ true →
    Called op old left answer → IsAsBefore old left
called_keeps op old left (Ok reply) none k =
    let there = stays op old left (Ok reply) k in
    record {
      table = there.0;
      config = there.1;
      own = there.2;
      idle = there.3;
      held = ap holdings_of (adds op old left (Ok reply) k) ∙
          leave_held (actions_of op (Ok reply) k.trace) (own_actions old) (adds_free op reply k.trace none);
    }
called_keeps op old left (Err refusal) none k = refused_keeps op old left refusal k

-- a task that is idle is as it was
pub unchanged : (s : SeatedTask) → IsIdle s → IsAsBefore s s
unchanged s idle = record { table = refl; config = refl; own = refl; idle = idle; held = refl }

module _ {A : Type 0} (read : Reply → A) (op : Op) (old left : SeatedTask) (outcome : Result A GateError) (idle : IsIdle old)
    (call : Replies read op old left outcome) where
  -- whether its beginning is refused or not
  by_beginning : ((answer : Result Reply GateError) → outcome ≡ told_as read answer → Called op old left answer → IsAsBefore old left) →
      (o : Option GateError) → refusal_at op old ≡ o → IsAsBefore old left
  by_beginning done None at = let whole = call.done at in done whole.0 whole.1 whole.2
  by_beginning done (Some refusal) at =
      let same : left ≡ old = (call.refused refusal at).1 in subst (IsAsBefore old) (sym same) (unchanged old idle)

  -- a call that takes nothing leaves a task as it was, whatever it answers
  pub keeps : takes_nothing op ≡ true → IsAsBefore old left
  keeps none = by_beginning (λ answer told k. called_keeps op old left answer none k) (refusal_at op old) refl

-- a call that tells a refusal was refused
refused_answer : {A : Type 0} (read : Reply → A) (op : Op) (old left : SeatedTask) (refusal : GateError) (answer : Result Reply GateError) →
    Err refusal ≡ told_as read answer → Called op old left answer → IsAsBefore old left
refused_answer read op old left refusal (Ok reply) told k = absurd (let f : ⊥ = cc in f)
refused_answer read op old left refusal (Err cause) told k = refused_keeps op old left cause k

-- and leaves a task as it was
pub refused_call_keeps : {A : Type 0} (read : Reply → A) (op : Op) (old left : SeatedTask) (refusal : GateError) → IsIdle old →
    Replies read op old left (Err refusal) → IsAsBefore old left
refused_call_keeps read op old left refusal idle call =
    by_beginning read op old left (Err refusal) idle call (λ answer told k. refused_answer read op old left refusal answer told k)
    (refusal_at op old) refl

-- who is as before holds nothing where it held nothing
pub rests_on : (before after : SeatedTask) → Rests before → IsAsBefore before after → Rests after
rests_on before after rests same = (
  same.idle,
  (
    (λ m lt. ap (λ (h : Holdings). h.mounts m) same.held ∙ rests.1.0 m (subst (λ c. m < c.mounts) same.config lt)),
    (λ i one three. ap (λ (h : Holdings). h.levels i) same.held ∙ rests.1.1 i one three),
    (λ n. ap (λ (h : Holdings). h.files n) same.held ∙ rests.1.2 n),
  ),
)

-- and as before twice is as before
pub as_before_twice : (first second third : SeatedTask) → IsAsBefore first second → IsAsBefore second third → IsAsBefore first third
as_before_twice first second third a b = record {
  table = b.table ∙ a.table;
  config = b.config ∙ a.config;
  own = b.own ∙ a.own;
  idle = b.idle;
  held = b.held ∙ a.held;
}
