use Rattle.std.proofs.Common.{Bool, length, subst}
use Rattle.outcome_forms.{proofs.Parts.{is_all, is_part, tells_all, tells_some}, specs.Told.{AsksNone, TellsListed, head_text, margin_of, mark_of}}
use Rattle.outcome_forms.proofs.telling.tell.Goals as goal

pub returns-clause-all : goal.returns-clause-all
returns-clause-all g c = λ whole.
    let listing = c.in_ok-listing.listing in
    let asked = c.args.details in
    let is = is_all _ _ _ _ c.is_whole.ensures c.in_ok-listing.ensures.table.lengths whole in
    tells_all c.args.plan.method c.args.core c.args.source.calls.now.race.calls.items asked listing.all.found.states listing.outcomes.items
    c.args.out.now.bytes.items c.tell_listed.new.out.bytes.items (c.in_ok-listing.ensures.states whole) (c.in_ok-listing.ensures.outcomes whole)
    c.in_ok-listing.ensures.each
    (subst (λ (b : Bool). TellsListed (mark_of asked.schedules) (margin_of asked.schedules) (AsksNone asked)
    (head_text b c.args.plan.limit (length listing.all.found.states) (length listing.outcomes.items)) listing.outcomes.items
    c.args.out.now.bytes.items c.tell_listed.new.out.bytes.items) is c.in_ok-tell_listed.ensures)

pub returns-clause-some : goal.returns-clause-some
returns-clause-some g c = λ less.
    let listing = c.in_ok-listing.listing in
    let asked = c.args.details in
    let is = is_part _ _ _ _ c.is_whole.ensures c.in_ok-listing.ensures.table.lengths less in
    tells_some c.args.plan.method c.args.core c.args.source.calls.now.race.tasks c.args.source.calls.now.race.calls.items c.args.plan.limit asked
    listing.all.found.states listing.outcomes.items c.args.out.now.bytes.items c.tell_listed.new.out.bytes.items
    (c.in_ok-listing.ensures.too_many less) c.in_ok-listing.ensures.so_far (c.in_ok-listing.ensures.settled less) c.in_ok-listing.ensures.each
    (subst (λ (b : Bool). TellsListed (mark_of asked.schedules) (margin_of asked.schedules) (AsksNone asked)
    (head_text b c.args.plan.limit (length listing.all.found.states) (length listing.outcomes.items)) listing.outcomes.items
    c.args.out.now.bytes.items c.tell_listed.new.out.bytes.items) is c.in_ok-tell_listed.ensures)
