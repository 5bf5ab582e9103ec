-- What the contracts of this crate's functions cite, beside the definitions of rules/specs/Gauges.
--     Gauging   readings, exponents in a flat list and one by one, what `evaluate` answers, what each case of an answer says: `gauge`, `evaluate`, `Groups`, `product`
pub mod Gauging
