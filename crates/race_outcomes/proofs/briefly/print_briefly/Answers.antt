use Rattle.std.{proofs.Common.{List, ap, length, ◌∙◌, ◌≡◌}, specs.List.flat_map}
use Rattle.schedule_lines.proofs.Printed.{prints_same}
use Rattle.race_outcomes.{proofs.{Ordered.written, OutcomeLines.told_briefly}, specs.{Briefly.line_of, declared.listing.Outcome.Outcome}}
use Rattle.race_outcomes.proofs.briefly.print_briefly.Goals as goal

pub returns : goal.returns
returns c = λ are_all.
    let listing = c.in_ok-listing.listing in
    let whole : listing.all.found.expanded ≡ length listing.all.found.states =
    c.is_whole-are_all.ensures.0 are_all ∙ c.in_ok-listing.ensures.table.lengths in
    told_briefly c.args.core c.args.race.now.calls.items listing.all.found.states listing.outcomes.items c.args.out.now c.print_counts.new.out
    c.print_lines.new.out (c.in_ok-listing.ensures.states whole) (c.in_ok-listing.ensures.outcomes whole) c.in_ok-listing.ensures.each
    c.print_counts.ensures
    (prints_same c.print_lines.ensures (ap (λ (outcomes : List Outcome). flat_map line_of (written outcomes)) c.as_slice.ensures.value))
    c.in_ok-settled.ensures.whole
