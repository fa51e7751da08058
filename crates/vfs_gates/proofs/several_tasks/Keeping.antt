-- A task that holds an access at a mount keeps it writable.
use Rattle.vfs_gates.proofs.Prelude.{Action, AreMoves, Begins, Bool, Busy, Called, ChangeMount, Config, DealtNumbers, Encloses, Entry, Err, Event}
use Rattle.vfs_gates.proofs.Prelude.{GateError, HasDone, HasSeen, IsAllowed, IsEventDuring, IsLegal, IsPrefix, IsWithin, Limits, List, NoneIs, Ok, Op}
use Rattle.vfs_gates.proofs.Prelude.{RemountSb, Reply, Result, SbRo, SbRw, SeatedTask, Steps, TakesEffect, Traced, WordName, Words, []}
use Rattle.vfs_gates.proofs.Prelude.{actions_append, actions_since, actions_so_far, after_more, and_parts, ap, append-nil, arith, call_effect}
use Rattle.vfs_gates.proofs.Prelude.{cases_Bool, each_event, end_of, eqb_tells, false≢true, found_read_only, found_sealed, get_elem?, if◌then◌else◌}
use Rattle.vfs_gates.proofs.Prelude.{inl, inr, is_load, length, model_limits, mounts_of, next_of, only, own_part, part_append, read, refl, some}
use Rattle.vfs_gates.proofs.Prelude.{state_of_trace, subst, sym, true, whole_rule, whole_run, world_after, ℕ, ◌&&◌, ◌++◌, ◌+◌, ◌∙◌, ◌∷◌, ◌≡◌, ◌≤◌}
use Rattle.std.proofs.Common.{length-append}
use Rattle.access_model.{proofs.Lists.follows, specs.{Histories.Done, declared.actions.Action.TheVariants.MountRo}}
use Rattle.access_model.specs.declared.errors.GateError.TheVariants.{Hook}
use Rattle.{cpu_words.specs.declared.names.WordName.TheVariants.SbFlags, gate_steps.specs.call_events.{SeatedTasks.own_number, Spans.GoesOnFromSeen}}
use Rattle.gate_world.specs.traces.Found.{cleans, says_read_only, says_sealed}
use Rattle.vfs_gates.proofs.several_tasks.Enclosed.{done_there, granted_there, mount_there, not_read_only, read_only_found, stood}
use Rattle.vfs_gates.{proofs.several_tasks.FrozenUntilThawed.{SomeSays, load_finds, some_of}, specs.Meetings.Shuts}

-- none of these actions, of whatever task, is such a one
abbrev pub NoneOfThese : (Action → Type 0) → List Done → Type 0
NoneOfThese Is [] = Unit {0}
NoneOfThese Is (a ∷ earlier) = (Is a.1 → ⊥) × NoneOfThese Is earlier

-- so none of a number's own is
pub none_own : (Is : Action → Type 0) (n : ℕ) (log : List Done) → NoneOfThese Is log → NoneIs Is (own_part n log)
none_own Is n [] none = tt
none_own Is n (a ∷ earlier) none =
    elim (eqb_tells a.0 n) [
      | inl is ↦ rw is.0 (none.0, none_own Is n earlier none.1)
      | inr other ↦ rw other.0 (none_own Is n earlier none.1)
    ]

-- a list is no longer than itself
too_long : (a : Action) (p list : List Action) → a ∷ (p ++ list) ≡ list → ⊥
too_long a p list same = let e = ap length same in let f = length-append p list in omega arith

-- where a number's list stays, and it holds an access at a mount by it, nobody shuts that mount
module _ (l : Limits) (n m : ℕ) (list : List Action) (holds : 1 ≤ mounts_of list m) where
  none_shuts : (more earlier : List Done) → IsLegal l (more ++ earlier) → own_part n earlier ≡ list → own_part n (more ++ earlier) ≡ list →
      NoneOfThese (Shuts m) more
  none_shuts [] earlier legal first last = tt
  none_shuts (a ∷ more) earlier legal first last =
      let log : List Done = more ++ earlier in
      let OwnIf : Bool → Type 0 = λ mine. (if mine then a.1 ∷ own_part n log else own_part n log) ≡ list in
      let same : own_part n log ≡ list = elim (eqb_tells a.0 n) [
        | inl is ↦ absurd (too_long a.1 (own_part n more) list
            (ap (λ (k : List Action). a.1 ∷ k) (sym (part_append n more earlier ∙ ap (λ (k : List Action). own_part n more ++ k) first)) ∙
            subst OwnIf is.0 last))
        | inr other ↦ subst OwnIf other.0 last
      ] in
      let there = granted_there l n m log legal.1 (subst (λ (k : List Action). 1 ≤ mounts_of k m) (sym same) holds) in
      let has : (end_of log).mounts n m ≡ mounts_of list m = (follows log n).mounts m ∙ ap (λ (k : List Action). mounts_of k m) same in (
        (λ shuts. elim shuts [
          | inl own ↦ let may : IsAllowed l (end_of log) a.0 (MountRo m) = subst (IsAllowed l (end_of log) a.0) own legal.0 in
              let none : (end_of log).mounts n m ≡ 0 = may.1.1 n there.0 in omega arith
          | inr all ↦ let may : IsAllowed l (end_of log) a.0 SbRo = subst (IsAllowed l (end_of log) a.0) all legal.0 in
              let none : (end_of log).mounts n m ≡ 0 = may.1.1 m there.1 n there.0 in omega arith
        ]),
        none_shuts more earlier legal.1 first same,
      )

-- A call that began after a state, and returned before another, in both of which a number has this list.
module _ (op : Op) (old left : SeatedTask) (answer : Result Reply GateError) (called : Called op old left answer)
    (before after : DealtNumbers) (around : Encloses before after old left) (n : ℕ) (list : List Action) (at_first : HasDone n list before) (at_last : HasDone n list after) where
  abbrev c : Config
  c = old.config

  abbrev t : ℕ
  t = own_number old.items

  abbrev within : IsWithin c
  within = around.first.within

  -- it has it at each moment of the call
  pub at_moment : (es rest began : List Entry) → GoesOnFromSeen c old.items old.seen began → IsPrefix began es → left.seen ≡ (es ++ rest) ∷ [] →
      own_part n (actions_so_far c es) ≡ list
  at_moment es rest began begins on leaves =
      let one : List Entry = around.first.history.reached.entries in
      let two : List Entry = around.last.history.reached.entries in
      let saw : HasSeen one old.seen = around.saw 0 one (ap (λ l. get_elem? l 0) around.first.last) in
      let from : IsPrefix one es = after_more one saw.1 es saw.3 (after_more saw.1 began es (begins.saw saw.0 saw.1 saw.2) on) in
      let sees : HasSeen (es ++ rest) around.last_seen = around.sees 0 (es ++ rest) (ap (λ l. get_elem? l 0) leaves) in
      let same : two ≡ sees.1 = only two sees.0 sees.1 (subst (λ l. get_elem? l sees.0 ≡ some sees.1) around.last.last sees.2) in
      let to : IsPrefix es two = after_more es (es ++ rest) two (rest, refl) (subst (IsPrefix (es ++ rest)) (sym same) sees.3) in
      stood c n one es two list from to (done_there c before around.first_seen around.first n list at_first)
      (done_there c after around.last_seen around.last n list at_last)

  module _ (m : ℕ) (holds : 1 ≤ mounts_of list m) where
    -- so none of its loads says that the mount is read-only
    abbrev Says : Event → Type 0
    Says e = (is_load e.touch ≡ true) × (says_read_only m e.word e.found ≡ true)

    pub none_says : SomeSays Says called.trace → ⊥
    none_says says =
        let during : IsEventDuring c old.items op says.2 says.1 old.seen left.seen =
        each_event c op old.items old.seen left.seen says.0 says.1 says.2
        (subst (λ (l : List Traced). AreMoves c op old.items old.seen l left.seen) says.3 called.moves) in
        let es : List Entry = during.entries in
        let is : own_part n (actions_so_far c es) ≡ list =
        at_moment es (Steps t says.1.hook ∷ during.rest) during.began during.begins (Begins t op ∷ during.since, during.is) during.leaves in
        let event : Event = says.1.event in
        let words : Words = (world_after c es).words in
        let finds : event.found ≡ read words event.word =
        load_finds words (next_of during.happens.phase says.1.hook) event (ap (λ (x : Traced). x.event) during.happens.finds) says.4.0 in
        not_read_only c within n m es list is holds
        (read_only_found c (world_after c es) (whole_rule c within es) m (mount_there c within n m es list is holds) event.word event.found finds
        says.4.1)

    -- and none of its actions shuts it
    pub none_added : NoneIs (Shuts m) (state_of_trace c t op called.trace).added
    none_added =
        let effect : TakesEffect c old.items op called.trace old.seen left.seen called.history.history.log = call_effect op old left answer called in
        let began : List Entry = effect.began in
        let since : List Entry = effect.since in
        let at_began : own_part n (actions_so_far c began) ≡ list = at_moment began since began effect.begins ([], sym (append-nil began)) effect.leaves in
        let at_end : own_part n (actions_so_far c (began ++ since)) ≡ list =
        at_moment (began ++ since) [] began effect.begins (since, refl)
        (effect.leaves ∙ ap (λ (l : List Entry). l ∷ []) (sym (append-nil (began ++ since)))) in
        let legal : IsLegal (model_limits c) (actions_since c began since ++ actions_so_far c began) =
        subst (IsLegal (model_limits c)) (actions_append c began since) (whole_run c within (began ++ since)).legal in
        subst (NoneIs (Shuts m)) effect.added
        (none_own (Shuts m) t (actions_since c began since)
        (none_shuts (model_limits c) n m list holds (actions_since c began since) (actions_so_far c began) legal at_began
        (subst (λ (k : List Done). own_part n k ≡ list) (actions_append c began since) at_end)))

-- so no change makes the mount read-only
pub change_refused : (m n : ℕ) (wait : Bool) (old left : SeatedTask) (reply : Reply) (list : List Action) (before after : DealtNumbers) →
    Called (ChangeMount m true wait) old left (Ok reply) → Encloses before after old left → HasDone n list before → HasDone n list after →
    1 ≤ mounts_of list m → ⊥
change_refused m n wait old left reply list before after called around at_first at_last holds =
    let op : Op = ChangeMount m true wait in
    let answer : Result Reply GateError = Ok reply in
    elim (cases_Bool (found_read_only m called.trace)) [
      | inl found ↦ none_says op old left answer called before after around n list at_first at_last m holds
          (some_of (λ e. is_load e.touch && says_read_only m e.word e.found)
          (Says op old left answer called before after around n list at_first at_last m holds)
          (λ e is. and_parts (is_load e.touch) (says_read_only m e.word e.found) is) called.trace found)
      | inr none ↦
          let added : (state_of_trace old.config (own_number old.items) op called.trace).added ≡ MountRo m ∷ [] = called.added ∙ rw none refl in
          (subst (NoneIs (Shuts m)) added (none_added op old left answer called before after around n list at_first at_last m holds)).0 (inl refl)
    ]

-- whoever finds the superblock's flag set finds each mount read-only
sealed_so : (m : ℕ) (word : WordName) (found : ℕ) → says_sealed word found ≡ true → says_read_only m word found ≡ true
sealed_so m SbFlags found says = says
sealed_so m word found says = absurd (false≢true says)

none_last : (Is : Action → Type 0) (l : List Action) (a : Action) → NoneIs Is (l ++ a ∷ []) → Is a → ⊥
none_last Is [] a none is = none.0 is
none_last Is (x ∷ l) a none is = none_last Is l a none.1 is

-- and a remount to read-only is busy
pub remount_busy : (m n : ℕ) (old left : SeatedTask) (answer : Result Reply GateError) (list : List Action) (before after : DealtNumbers) →
    Called (RemountSb true) old left answer → Encloses before after old left → HasDone n list before → HasDone n list after →
    1 ≤ mounts_of list m → answer ≡ Err Busy
remount_busy m n old left (Ok reply) list before after called around at_first at_last holds =
    let op : Op = RemountSb true in
    elim (cases_Bool (found_sealed called.trace)) [
      | inl found ↦ absurd (none_says op old left (Ok reply) called before after around n list at_first at_last m holds
          (some_of (λ e. is_load e.touch && says_sealed e.word e.found)
          (Says op old left (Ok reply) called before after around n list at_first at_last m holds)
          (λ e is. let both = and_parts (is_load e.touch) (says_sealed e.word e.found) is in (both.0, sealed_so m e.word e.found both.1))
          called.trace found))
      | inr none ↦
          let added : (state_of_trace old.config (own_number old.items) op called.trace).added ≡ cleans called.trace ++ SbRo ∷ [] =
          called.added ∙ rw none refl in
          absurd (none_last (Shuts m) (cleans called.trace) SbRo (subst (NoneIs (Shuts m)) added
          (none_added op old left (Ok reply) called before after around n list at_first at_last m holds)) (inr refl))
    ]
remount_busy m n old left (Err Busy) list before after called around at_first at_last holds = refl
remount_busy m n old left (Err (Hook code)) list before after called around at_first at_last holds =
    absurd (none_last (Shuts m) (SbRw ∷ cleans called.trace) SbRo (subst (NoneIs (Shuts m)) called.added
    (none_added (RemountSb true) old left (Err (Hook code)) called before after around n list at_first at_last m holds)) (inr refl))
remount_busy m n old left (Err refusal) list before after called around at_first at_last holds = absurd called.honest
