-- The schedule of a call goes on from all that its task had seen.
use Rattle.gate_steps.proofs.Prelude.{Called, Config, DealtNumbers, Done, Entry, GateError, HookAnswer, List, Next, Op, Option, Phase, Reply, Result}
use Rattle.gate_steps.proofs.Prelude.{SeatedTask, Traced, [], ap, arith, get_elem?, own_number, some, some-injective, some-ne-none, state_of_trace}
use Rattle.gate_steps.proofs.Prelude.{subst, suc, sym, zero, ℕ, ◌++◌, ◌∙◌, ◌∷◌, ◌≡◌}
use Rattle.std.proofs.lemmas.{Grind.common_steps, List.{append-nil, append_assoc}}
use Rattle.gate_steps.specs.{Seating.{HasWitness, IsPrefix}, call_events.{Grown.{AllGoOn, StaySeen}, Runs.{AreMoves, IsNextMove, SeesOn, begins_at}}}
use Rattle.gate_steps.specs.call_events.Runs.{items_at}

pub after_more : (a b c : List Entry) → IsPrefix a b → IsPrefix b c → IsPrefix a c
after_more a b c g h = (g.0 ++ h.0, h.1 ∙ (ap (λ (l : List Entry). l ++ h.0) g.1 ∙ append_assoc a g.0 h.0))

pub only : (last : List Entry) (j : ℕ) (later : List Entry) → get_elem? (last ∷ []) j ≡ some later → last ≡ later
only last zero later at = some-injective last later at
only last (suc j) later at = absurd (some-ne-none later (sym at))

-- the schedules that a step leaves go on from all seen before it
pub moved_on : (c : Config) (begins : Option Op) (phase : Phase) (hook : HookAnswer) (items : DealtNumbers) (found : ℕ) (seen gone : List (List Entry)) →
    HasWitness c begins phase hook items found seen gone → AllGoOn seen gone
moved_on c begins phase hook items found seen gone move k earlier at j later there = grind (arith, common_steps)

-- and so from all that stays seen in what was
pub goes_on_after : (one two three : List (List Entry)) → StaySeen one two → AllGoOn two three → AllGoOn one three
goes_on_after one two three stays on k earlier at j later there =
    let more = stays k earlier at in after_more earlier more.1 later more.3 (on more.0 more.1 more.2 j later there)

-- what was seen
pub only_seen : (earlier : List Entry) → IsPrefix earlier earlier
only_seen earlier = ([], sym (append-nil earlier))

-- where nothing came in between, it is seen still
pub same_stays_seen : (seen : List (List Entry)) → StaySeen seen seen
same_stays_seen seen k earlier at = (k, earlier, at, only_seen earlier)

-- and so between any two steps
pub sees_on_stays : (trace : List Traced) (before now : List (List Entry)) → SeesOn trace before now → StaySeen before now
sees_on_stays [] before now same = subst (StaySeen before) (sym same) (same_stays_seen before)
sees_on_stays (e ∷ earlier) before now stays = stays

abbrev HasOne : List (List Entry) → Type 0
HasOne gone = (l : List Entry) × (get_elem? gone 0 ≡ some l)

one_left : (c : Config) (begins : Option Op) (phase : Phase) (hook : HookAnswer) (items : DealtNumbers) (found : ℕ) (seen gone : List (List Entry)) →
    HasWitness c begins phase hook items found seen gone → HasOne gone
one_left c begins phase hook items found seen gone move = grind arith

-- where a trace of moves leaves one schedule, it goes on from all seen before
pub next_on : (c : Config) (op : Op) (items : DealtNumbers) (earlier : List Traced) (e : Traced) (seen gone : List (List Entry)) (comes : Next Phase) →
    IsNextMove c op items earlier e seen gone comes → AllGoOn seen gone × HasOne gone
next_on c op items earlier e seen gone comes m = grind (arith, moved_on, begins_at, items_at, one_left)

pub moves_on : (c : Config) (op : Op) (items : DealtNumbers) (seen : List (List Entry)) (e : Traced) (earlier : List Traced)
    (gone : List (List Entry)) → AreMoves c op items seen (e ∷ earlier) gone → AllGoOn seen gone
moves_on c op items seen e [] gone m =
    let n = next_on c op items [] e m.0 gone (state_of_trace c (own_number items) op []).comes m.1 in
    λ k a at j b there. n.0 k a (subst (λ l. get_elem? l k ≡ some a) (sym (m.3 ∙ m.4)) at) j b there
moves_on c op items seen e (d ∷ earlier) gone m =
    let n = next_on c op items (d ∷ earlier) e m.0 gone (state_of_trace c (own_number items) op (d ∷ earlier)).comes m.1 in
    let before = next_on c op items earlier d m.4.0 m.2 (state_of_trace c (own_number items) op earlier).comes m.4.1 in
    let r = moves_on c op items seen d earlier m.2 m.4 in
    λ k a at j b there. let o = before.1 in
    after_more a o.0 b (r k a at 0 o.0 o.1) (goes_on_after m.2 m.0 gone m.3 n.0 0 o.0 o.1 j b there)

trace_goes_on : (c : Config) (op : Op) (items : DealtNumbers) (seen gone : List (List Entry)) (answer : Result Reply GateError) (trace : List Traced) →
    (state_of_trace c (own_number items) op trace).comes ≡ Done answer → AreMoves c op items seen trace gone → AllGoOn seen gone
trace_goes_on c op items seen gone answer [] ends moves = absurd (let no : ⊥ = cc in no)
trace_goes_on c op items seen gone answer (e ∷ earlier) ends moves = moves_on c op items seen e earlier gone moves

-- so a whole call, which has at least one step
pub call_goes_on : (op : Op) (old left : SeatedTask) (answer : Result Reply GateError) → Called op old left answer → AllGoOn old.seen left.seen
call_goes_on op old left answer called = trace_goes_on old.config op old.items old.seen left.seen answer called.trace called.ends called.moves

-- what was seen stays so over a call
trace_leaves : (c : Config) (op : Op) (items : DealtNumbers) (seen gone : List (List Entry)) (answer : Result Reply GateError) (trace : List Traced) →
    (state_of_trace c (own_number items) op trace).comes ≡ Done answer → AreMoves c op items seen trace gone → HasOne gone
trace_leaves c op items seen gone answer [] ends moves = absurd (let no : ⊥ = cc in no)
trace_leaves c op items seen gone answer (e ∷ earlier) ends moves =
    (next_on c op items earlier e moves.0 gone (state_of_trace c (own_number items) op earlier).comes moves.1).1

pub call_stays_seen : (op : Op) (old left : SeatedTask) (answer : Result Reply GateError) → Called op old left answer →
    StaySeen old.seen left.seen
call_stays_seen op old left answer called k earlier at =
    let one = trace_leaves old.config op old.items old.seen left.seen answer called.trace called.ends called.moves in
    (0, one.0, one.1, call_goes_on op old left answer called k earlier at 0 one.0 one.1)

-- and over whatever came
pub stays_seen_on : (one two three : List (List Entry)) → StaySeen one two → StaySeen two three → StaySeen one three
stays_seen_on one two three f g k earlier at = grind (arith, common_steps)

-- of two that were joined, what either had seen
first_seen_at : (mine others : List (List Entry)) (k : ℕ) (earlier : List Entry) → get_elem? mine k ≡ some earlier →
    get_elem? (mine ++ others) k ≡ some earlier
first_seen_at [] others k earlier at = absurd (some-ne-none earlier (sym at))
first_seen_at (l ∷ mine) others zero earlier at = at
first_seen_at (l ∷ mine) others (suc k) earlier at = first_seen_at mine others k earlier at

second_seen_at : (mine others : List (List Entry)) (k : ℕ) (earlier : List Entry) → get_elem? others k ≡ some earlier →
    (j : ℕ) × (get_elem? (mine ++ others) j ≡ some earlier)
second_seen_at [] others k earlier at = (k, at)
second_seen_at (l ∷ mine) others k earlier at = let r = second_seen_at mine others k earlier at in (suc r.0, r.1)

pub both_stay_seen : (mine others : List (List Entry)) → StaySeen mine (mine ++ others) × StaySeen others (mine ++ others)
both_stay_seen mine others = (
  λ k earlier at. (k, earlier, first_seen_at mine others k earlier at, only_seen earlier),
  λ k earlier at. let r = second_seen_at mine others k earlier at in (r.0, earlier, r.1, only_seen earlier),
)
