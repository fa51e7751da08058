-- The gates as they begin show the opening.
use Rattle.std.proofs.Common.{All, List, None, [], ap, arith, cond, eqb, false, get_or, length, refl, subst, suc, sym, true, zero, ℕ, ◌+◌, ◌<◌, ◌∷◌}
use Rattle.std.proofs.Common.{◌≡◌, ◌≤◌}
use Rattle.{cpu_words.{proofs.Places.opening_listed, specs.{Lists.AreOpening, Names.words_in_all}}, gate_schedules.proofs.frames.Places.are_few}
use Rattle.gate_steps.{proofs.call_events.Grown.only_seen, specs.Rules.first_items}
use Rattle.gate_steps.specs.{Seating.{DealtNumbers, deal, given_of, kept_of, renewed, view_in, without}, call_events.Grown.HasSeen}
use Rattle.gate_world.specs.{Configs.{IsWithin, extents_kept}, Fits.Fits, Views.{held_of, opening_view}, Worlds.opening}
use Rattle.gate_world.specs.declared.{config.Config.Config, views.View.View}
use Rattle.vfs_gates.{proofs.Splitting.there_kept, specs.{Splitting.AreNumbered, TaskStates.{SeatedTask, own_number, own_view}}}
use Rattle.program_replay.specs.Shown.{AreUntouched, IsNew, IsShown, TasksShow}

own_untouched : (items : DealtNumbers) → AreUntouched items → own_view items ≡ opening_view
own_untouched [] h = refl
own_untouched (x ∷ xs) h = h.0

-- numbers as they are dealt
untouched_dealt : (from count : ℕ) → AreUntouched (deal from count)
untouched_dealt from zero = tt
untouched_dealt from (suc count) = (refl, untouched_dealt (suc from) count)

untouched_without : (n : ℕ) (items : DealtNumbers) → AreUntouched items → AreUntouched (without n items)
untouched_without n [] h = tt
untouched_without n (x ∷ xs) h =
    let rest = untouched_without n xs h.1 in
    elim (eqb x.number n) as (λ b. AreUntouched (cond b (without n xs) (x ∷ without n xs))) [ true ↦ rest | false ↦ (h.0, rest) ]

untouched_in : (n : ℕ) (items : DealtNumbers) → AreUntouched items → view_in n items ≡ opening_view
untouched_in n [] h = refl
untouched_in n (x ∷ xs) h =
    let rest = untouched_in n xs h.1 in
    elim (eqb x.number n) as (λ b. cond b x.view (view_in n xs) ≡ opening_view) [ true ↦ h.0 | false ↦ rest ]

-- the first task is new
pub first_new : (s : SeatedTask) (c : Config) → 1 ≤ length s.items → s.phase ≡ None → s.seen ≡ [] ∷ [] → s.items ≡ first_items c → IsNew s
first_new s c there idle seen all = record { there = there; idle = idle; seen = seen; items = subst AreUntouched (sym all) (untouched_dealt 0 c.tasks) }

untouched_kept : (n : ℕ) (items : DealtNumbers) → AreUntouched items → AreUntouched (kept_of n items)
untouched_kept n [] h = tt
untouched_kept n (x ∷ xs) h = (h.0, untouched_without n xs h.1)

there_given : (n : ℕ) (items : DealtNumbers) → 1 ≤ length items → 1 ≤ length (given_of n items)
there_given n [] there = there
there_given n (x ∷ xs) there = omega arith

untouched_given : (n : ℕ) (items : DealtNumbers) → AreUntouched items → AreUntouched (given_of n items)
untouched_given n [] h = tt
untouched_given n (x ∷ xs) h = (ap renewed (untouched_in n xs h.1), tt)

-- and stays so, where it gives a number away
pub new_kept : (n : ℕ) (s left : SeatedTask) → IsNew s → left ≡ record s { items = kept_of n s.items } → IsNew left
new_kept n s left new kept = subst IsNew (sym kept) (record {
  there = there_kept n s.items new.there;
  idle = new.idle;
  seen = new.seen;
  items = untouched_kept n s.items new.items;
})

-- and so is the task that it gives it to
pub new_given : (n : ℕ) (s other : SeatedTask) → IsNew s → other ≡ record s { items = given_of n s.items } → IsNew other
new_given n s other new given = subst IsNew (sym given) (record {
  there = there_given n s.items new.there;
  idle = new.idle;
  seen = new.seen;
  items = untouched_given n s.items new.items;
})

numbered_at : (from : ℕ) (ts : List SeatedTask) → AreNumbered from ts → (j : ℕ) (d : SeatedTask) → j < length ts →
    own_number (get_or ts j d).items ≡ from + j
numbered_at from [] are j d lt = absurd (omega (arith, lt))
numbered_at from (t ∷ ts) are zero d lt = omega (arith, are.0)
numbered_at from (t ∷ ts) are (suc j) d lt =
    let rest = numbered_at (from + 1) ts are.1 j d (omega (arith, lt)) in omega (arith, rest)

-- in the opening a new task stands as it knows
new_shown : (c : Config) (number : ℕ) (s : SeatedTask) → IsNew s → own_number s.items ≡ number → s.config ≡ c → IsShown c [] opening number s
new_shown c number s new own config =
    let view : own_view s.items ≡ opening_view = own_untouched s.items new.items in record {
      there = new.there;
      own = own;
      config = config;
      seen = subst (HasSeen []) (sym new.seen) (0, [], refl, only_seen []);
      stands = record { phase = ap (λ (v : View). v.phase) (sym view); events = ap (λ (v : View). v.events) (sym view) };
      phase = sym new.idle;
      actions = ap (λ (v : View). v.actions) (sym view);
      fits = subst (Fits c number (held_of (own_view s.items))) (sym new.idle) tt;
    }

pub opening_shown : (c : Config) → IsWithin c → (first : SeatedTask) (others : List SeatedTask) (list : List ℕ) → IsNew first → All IsNew others →
    own_number first.items ≡ 0 → AreNumbered 1 others → first.config ≡ c → All (λ (s : SeatedTask). s.config ≡ c) others →
    length others + 1 ≡ c.tasks → AreOpening (λ place. place) words_in_all list → TasksShow (first ∷ others) list c opening
opening_shown c within first others list new news own owns config configs count opens = record {
  within = within;
  count = omega (arith, count);
  long = opens.long;
  entries = [];
  words = refl;
  shown = λ k t lk. elim k as (λ k. k < c.tasks → IsShown c [] opening k (get_or (first ∷ others) k t)) [
    | zero ↦ (λ low. new_shown c 0 first new own config)
    | suc j ↦ (λ low. let inside : j < length others = omega (arith, low, count) in
        new_shown c (suc j) (get_or others j t) (news j t inside) (let its = numbered_at 1 others owns j t inside in omega (arith, its))
        (configs j t inside))
  ] lk;
  listed = opening_listed (extents_kept c) (are_few c within) (λ place. place) (λ i j q. q) words_in_all list opens
      (let some = within.some_node in omega (arith, some));
}
