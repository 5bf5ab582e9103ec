use Rattle.std.proofs.Common.{◌≡◌, true, false, arith, sym, ap, ◌∙◌}
use Rattle.std.proofs.lemmas.Grind.{common_steps}
use Rattle.std.specs.List.{list_all}
use Rattle.rules.specs.Limits.{power_in_range}
use Rattle.gauges.specs.Gauging.{value_by}
use Rattle.gauges.proofs.Checked.{bad-reading, no_group, large_power, out_of_range, in_range}
use Rattle.gauges.proofs.evaluate.Goals as goal

pub returns-in-Some : goal.returns-in-Some
returns-in-Some c =
    sym (bad-reading c.args.groups.now c.args.group c.args.readings.now c.requires c.in-Some.k c.in-Some.ensures)

pub returns-in_default-exponents : goal.returns-in_default-exponents
returns-in_default-exponents c =
    sym (no_group c.args.groups.now c.args.group c.args.readings.now c.requires c.in_default.ensures c.in_default-exponents.ensures.no_group)

pub returns-then-not-all_in_range : goal.returns-then-not-all_in_range
returns-then-not-all_in_range c =
    let e = c.in-Some-exponents.ensures in
    let judged : false ≡ list_all power_in_range c.in-Some-exponents.exponents.items = grind (arith, common_steps, c.if-not-all_in_range.ensures, c.deref.ensures.0) in
    sym (large_power c.args.groups.now c.args.group c.args.readings.now c.requires c.in_default.ensures e.there _ e.found judged)

pub returns-then-is_out : goal.returns-then-is_out
returns-then-is_out c =
    let e = c.in-Some-exponents.ensures in
    let judged : true ≡ list_all power_in_range c.in-Some-exponents.exponents.items = grind (arith, common_steps, c.if-not-all_in_range.ensures, c.deref.ensures.0) in
    sym (out_of_range c.args.groups.now c.args.group c.args.readings.now c.requires c.in_default.ensures e.there _ e.found judged
    _ (c.product-value.ensures ∙ ap (value_by c.args.readings.now) c.deref-2.ensures.0) c.if-is_out.ensures)

pub returns : goal.returns
returns c =
    let e = c.in-Some-exponents.ensures in
    let judged : true ≡ list_all power_in_range c.in-Some-exponents.exponents.items = grind (arith, common_steps, c.if-not-all_in_range.ensures, c.deref.ensures.0) in
    sym (in_range c.args.groups.now c.args.group c.args.readings.now c.requires c.in_default.ensures e.there _ e.found judged
    _ (c.product-value.ensures ∙ ap (value_by c.args.readings.now) c.deref-2.ensures.0) c.if-is_out.ensures)
