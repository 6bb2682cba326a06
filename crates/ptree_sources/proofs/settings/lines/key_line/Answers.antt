use Rattle.std.proofs.Common.{◌∙◌, ap, arith}
use Rattle.ptree_sources.specs.FaultLine.{last_line}
use Rattle.ptree_sources.proofs.FaultPlaces.{none_after, none_from, not_healed, healed, none_tried, one_more, no_line, too_many}
use Rattle.ptree_sources.proofs.settings.lines.key_line.Goals as goal

pub loop-place-init : goal.loop-place-init
loop-place-init c = none_tried c.args.file.now c.args.fault c.args.key.now c.args.text.now

pub loop-place-preserved : goal.loop-place-preserved
loop-place-preserved c =
    let not = not_healed c.args.file.now c.args.fault c.args.key.now c.args.text.now c.in-Some.at _ _ _ c.if-branch.false c.in_ok-is_healed.ensures c.split_at.ensures.front c.split_at.ensures.back in (
      none_from c.args.file.now c.args.fault c.args.key.now c.args.text.now c.in-Some.at c.loop-place.end c.loop-place.invariant.0 c.in-Some.ensures.later not,
      one_more c.args.file.now c.args.fault c.args.key.now c.args.text.now c.loop-place.place c.in-Some.at c.loop-place.end c.loop-place.invariant.1 c.in-Some.ensures.before c.in-Some.ensures.place,
    )

pub returns-in_default : goal.returns-in_default
returns-in_default c = no_line c.args.file.now c.args.fault c.args.key.now c.args.text.now c.loop-place.end c.loop-place.invariant.0 c.in_default.ensures.none

pub returns-then-branch : goal.returns-then-branch
returns-then-branch c =
    let heals = healed c.args.file.now c.args.fault c.args.key.now c.args.text.now c.in-Some.at _ _ _ c.if-branch.true c.in_ok-is_healed.ensures c.split_at.ensures.front c.split_at.ensures.back in
    record {
      at = c.in-Some.at;
      line_is = c.last_line.ensures ∙ ap last_line c.split_at.ensures.front;
      here = record { place = c.in-Some.ensures.place; heals = heals };
      later = none_after c.args.file.now c.args.fault c.args.key.now c.args.text.now c.in-Some.at c.loop-place.end c.loop-place.invariant.0 c.in-Some.ensures.later;
    }

pub returns : goal.returns
returns c = too_many c.args.file.now c.args.fault c.args.key.now c.args.text.now c.loop-place.place c.loop-place.end (omega arith) c.loop-place.invariant.0 c.loop-place.invariant.1
