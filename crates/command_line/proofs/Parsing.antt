-- What follows from a command line that was parsed.
use Rattle.std.proofs.Common.{Bool, Bor, List, None, Option, Some, [], ap, ap₂, arith, codes, false, get_or, length, map, option_map, refl, sym, take}
use Rattle.std.proofs.{Common.{true, ℕ, ◌&&◌, ◌++◌, ◌+◌, ◌<◌, ◌∙◌, ◌∷◌, ◌≡◌, ◌≤◌}, lemmas.List.{map-append, take_all, take_more}}
use Rattle.std.{proofs.lemmas.Slice.Eq.bytes_eq-Decides, specs.{Option.option_map_or, Prelude.{IsSomeAnd, is_some, not}, Str.bytes_eq}}
use Rattle.clap.{proofs.OnLiterals.clap_on_literals, specs.{Simple.new_shape, Words.{AddsArg, AddsSubcommand, App, Row, Rule, Shape, Text, app_of}}}
use Rattle.clap.specs.{Words.{first_of, is_simple, rule_of, with_rule, with_subcommand}, declared.builder.{action.ArgAction.ArgAction, arg.Arg.Arg}}
use Rattle.clap.specs.declared.builder.{command.Command.Command, range.ValueRange.ValueRange, texts.Texts.TheVariants.One}
use Rattle.clap.specs.declared.builder.value_parser.ValueParser.{ValueParser}
use Rattle.command_line.specs.CommandLine.{alone, are_plain, are_usual, argument_rule, ask_plainly, is_off, mntgate_app, subcommand_shape}
use Rattle.command_line.specs.declared.{arguments.{Argument.Argument, Subcommand.Subcommand}, words.ProgramRequest.TheVariants.Replay as AsksReplay}
use Rattle.command_line.specs.declared.words.{Replay.Replay, ReplayForm.ReplayForm}

-- both of two tests
pub and_left : (a b : Bool) → (a && b) ≡ true → a ≡ true
and_left a b h = grind arith

pub and_right : (a b : Bool) → (a && b) ≡ true → b ≡ true
and_right a b h = grind arith

-- what isn't so is false
pub is_false : (b : Bool) → not b ≡ true → b ≡ false
is_false b h = grind arith

-- nothing is there
pub is_none : {A : Type 0} (o : Option A) → not (is_some o) ≡ true → o ≡ None
is_none o h = grind arith

-- nothing was there before it was mapped
pub unmapped : {A B : Type 0} (f : A → B) (o : Option A) → option_map f o ≡ None → o ≡ None
unmapped f o h = grind arith

-- a flag that is off is false
pub off_false : (o : Option Text) (r : Bool) → option_map_or (λ text. bytes_eq text (codes "false")) o true ≡ true →
    (o ≡ None → r ≡ false) → (o ≡ Some (codes "false") → r ≡ false) → r ≡ false
off_false None r off none other = none refl
off_false (Some text) r off none other =
    let some : Text → Option Text = Some in
    other (ap some ((bytes_eq-Decides text (codes "false")).0 off))

-- what the words of a plain replay say of each argument
pub record PlainRows (rows : List Row) : Type 0 where
  pub file : first_of (codes "FILE") rows ≡ None
  pub names : first_of (codes "names") rows ≡ None
  pub raw : is_off rows (codes "raw") ≡ true
  pub events : is_off rows (codes "events") ≡ true
  pub columns : is_off rows (codes "columns") ≡ true
  pub json : is_off rows (codes "json") ≡ true
  pub html : is_off rows (codes "html") ≡ true
  pub gates : is_off rows (codes "over-gates") ≡ true

pub plain_rows : (rows : List Row) → are_plain rows ≡ true → PlainRows rows
plain_rows rows h =
    let off = λ (name : Text). is_off rows name in
    let others = and_right (not (is_some (first_of (codes "FILE") rows))) _ h in
    let usual = and_left (are_usual rows) _ others in
    let forms = and_right (are_usual rows) _ others in
    let after_events = and_right (off (codes "events")) _ forms in
    let after_columns = and_right (off (codes "columns")) _ after_events in
    let after_json = and_right (off (codes "json")) _ after_columns in
    record {
      file = is_none _ (and_left (not (is_some (first_of (codes "FILE") rows))) _ h);
      names = is_none _ (and_left (not (is_some (first_of (codes "names") rows))) _ usual);
      raw = and_right (not (is_some (first_of (codes "names") rows))) _ usual;
      events = and_left (off (codes "events")) _ forms;
      columns = and_left (off (codes "columns")) _ after_events;
      json = and_left (off (codes "json")) _ after_columns;
      html = and_left (off (codes "html")) _ after_json;
      gates = and_right (off (codes "html")) _ after_json;
    }

-- two requests that are the same are of the same replay
pub same_replay : (a b : Replay) → AsksReplay a ≡ AsksReplay b → a ≡ b
same_replay a b e = cc

-- two forms that are there and the same
pub same_form : (a b : ReplayForm) → Some a ≡ Some b → a ≡ b
same_form a b e = cc

-- two flags that are there and the same
pub same_flag : (a b : Bool) → Some a ≡ Some b → a ≡ b
same_flag a b e = cc

-- a range that is there
pub range_there : (o : Option ValueRange) (r : ValueRange) → IsSomeAnd o (λ v. v ≡ r) → o ≡ Some r
range_there None r h = absurd h
range_there (Some v) r h = let some : ValueRange → Option ValueRange = Some in ap some h

-- the third of four tests, which is of what isn't so
third : (a b g d : Bool) → (a && (b && (not g && d))) ≡ true → g ≡ false
third a b g d h = is_false g (and_left (not g) d (and_right b (not g && d) (and_right a (b && (not g && d)) h)))

-- what the parser knows of an argument, which is of its command alone
pub record IsMade (a : Arg) (r : Rule) : Type 0 where
  pub rule : rule_of a ≡ r
  pub local : a.global ≡ false

-- the steps of its making
module _ (a b : Arg) (r : Rule) (made : IsMade a r) where
  kept : {c : Arg} {s : Rule} → b ≡ c → rule_of c ≡ s → c.global ≡ a.global → IsMade b s
  kept is rule same = record { rule = ap rule_of is ∙ rule; local = ap (λ (x : Arg). x.global) is ∙ same ∙ made.local }

  pub helped : (help : Bor (List ℕ)) → b ≡ record a { help = Some help } → IsMade b r
  helped help is = kept is made.rule refl

  pub named : (name : Bor (List ℕ)) → b ≡ record a { long = Some name } → IsMade b (record r { long = Some name.now })
  named name is = kept is (ap (λ (r : Rule). let x : Rule = record r { long = Some name.now } in x) made.rule) refl

  pub acted : (action : ArgAction) → b ≡ record a { action = Some action } → IsMade b (record r { action = Some action })
  acted action is = kept is (ap (λ (r : Rule). let x : Rule = record r { action = Some action } in x) made.rule) refl

  pub valued : (value : Bor (List ℕ)) → b ≡ record a { val_names = One value } → IsMade b (record r { value_names = 1 })
  valued value is = kept is (ap (λ (r : Rule). let x : Rule = record r { value_names = 1 } in x) made.rule) refl

  pub parsed : (parser : Option ValueParser) → b ≡ record a { value_parser = b.value_parser } → b.value_parser ≡ parser →
      IsMade b (record r { parser = parser })
  parsed parser is by =
      kept is (ap (λ (r : Rule). let x : Rule = record r { parser = b.value_parser } in x) made.rule
      ∙ ap (λ (p : Option ValueParser). let x : Rule = record r { parser = p } in x) by) refl

  pub ranged : (range : Option ValueRange) → b ≡ record a { num_vals = b.num_vals } → b.num_vals ≡ range → IsMade b (record r { range = range })
  ranged range is by =
      kept is (ap (λ (r : Rule). let x : Rule = record r { range = b.num_vals } in x) made.rule
      ∙ ap (λ (o : Option ValueRange). let x : Rule = record r { range = o } in x) by) refl

  pub required : (needed : Bool) → b ≡ record a { required = needed } → IsMade b (record r { required = needed })
  required needed is = kept is (ap (λ (r : Rule). let x : Rule = record r { required = needed } in x) made.rule) refl

-- a command with one argument more
pub added : (old : Command) (a : Arg) (new : Command) (s : Shape) (r : Rule) → AddsArg old a new → a.global ≡ false →
    app_of old ≡ alone s → rule_of a ≡ r → app_of new ≡ alone (record s { rules = s.rules ++ r ∷ [] })
added old a new s r h local is rule = h.shape local ∙ ap₂ with_rule is rule

-- a command with one command more
pub joined : (old sub new : Command) (a : App) (s : Shape) → AddsSubcommand old sub new → s.is_plain ≡ true →
    app_of sub ≡ alone s → app_of old ≡ a → app_of new ≡ with_subcommand a s
joined old sub new a s h plain sub_is old_is =
    h.shape (third _ _ _ _ (ap (λ (x : App). x.top.is_plain) sub_is ∙ plain))
    ∙ ap₂ with_subcommand old_is (ap (λ (x : App). x.top) sub_is)

-- the parser knows all of the command line
pub is_known : is_simple mntgate_app ≡ true
is_known = refl

-- `mntgate replay`, whatever the program is called, asks for a plain replay of standard input
pub plain_words : (name : Text) → ask_plainly (name ∷ codes "replay" ∷ []) ≡ true
unfolding clap_on_literals
plain_words name = refl

-- and so it does with `--explain`
pub explained_words : (name : Text) → ask_plainly (name ∷ codes "replay" ∷ codes "--explain" ∷ []) ≡ true
unfolding clap_on_literals
explained_words name = refl

-- `--over-gates`, a form or a file don't
pub other_words : (name : Text) →
    (ask_plainly (name ∷ codes "replay" ∷ codes "--over-gates" ∷ []) ≡ false)
    × (ask_plainly (name ∷ codes "replay" ∷ codes "--json" ∷ []) ≡ false)
    × (ask_plainly (name ∷ codes "replay" ∷ codes "x.schedule" ∷ []) ≡ false)
unfolding clap_on_literals
other_words name = (refl, refl, refl)

-- the program, before it has its commands
abbrev pub no_commands : App
no_commands = record { top = record (new_shape (codes "mntgate")) { has_version = true; subcommand_required = true }; subs = [] }

-- a command with each of these, too
abbrev pub with_all : App → List Subcommand → App
with_all a [] = a
with_all a (s ∷ rest) = with_all (with_subcommand a (subcommand_shape s)) rest

-- and with one more
with_one_more : (a : App) (xs : List Subcommand) (x : Subcommand) → with_all a (xs ++ x ∷ []) ≡ with_subcommand (with_all a xs) (subcommand_shape x)
with_one_more a [] x = refl
with_one_more a (y ∷ ys) x = with_one_more (with_subcommand a (subcommand_shape y)) ys x

-- the rules of one argument more
pub rules_more : (xs : List Argument) (i : ℕ) (d : Argument) → i < length xs →
    map argument_rule (take i xs) ++ argument_rule (get_or xs i d) ∷ [] ≡ map argument_rule (take (i + 1) xs)
rules_more xs i d h = sym (ap (map argument_rule) (take_more xs i d h) ∙ map-append argument_rule (take i xs) _)

-- a command that has so many of these, and one more
pub commands_more : (xs : List Subcommand) (i : ℕ) (d : Subcommand) (a new : App) → i < length xs → a ≡ with_all no_commands (take i xs) →
    new ≡ with_subcommand a (subcommand_shape (get_or xs i d)) → new ≡ with_all no_commands (take (i + 1) xs)
commands_more xs i d a new h so_far more =
    more ∙ ap (λ (b : App). with_subcommand b (subcommand_shape (get_or xs i d))) so_far
    ∙ sym (ap (with_all no_commands) (take_more xs i d h) ∙ with_one_more no_commands (take i xs) (get_or xs i d))

-- one that has all of them
pub commands_all : (xs : List Subcommand) (i : ℕ) (a : App) → length xs ≤ i → a ≡ with_all no_commands (take i xs) → a ≡ with_all no_commands xs
commands_all xs i a h all = all ∙ ap (with_all no_commands) (take_all i xs h)
