use Rattle.std.proofs.Common.{◌≡◌, true, rules, arith}
use Rattle.std.proofs.lemmas.Grind.{common_steps}
use Rattle.std.specs.Str.{all_ascii_digits}
use Rattle.std.proofs.lemmas.Str.{IsUtf8-from_ascii}
use Rattle.std.proofs.lemmas.Str.Parse.{IsNumeralModel, numerals_by_fold, tells_all_ascii_digits, parse_digits}
use Rattle.std.proofs.lemmas.Fmt.{IsAscii-from_digits}
use Rattle.claim.specs.Grammar.{value, value_from}
use Rattle.claim.proofs.reader.number_below.Goals as goal

numerals : IsNumeralModel (λ ds. all_ascii_digits ds ≡ true) value
numerals = numerals_by_fold _ tells_all_ascii_digits value_from (search rules)

pub returns-in_err-ok : goal.returns-in_err-ok
returns-in_err-ok c =
    let text = IsUtf8-from_ascii c.args.digits.now (IsAscii-from_digits c.args.digits.now (numerals.to c.args.digits.now c.requires.1)) in
    search (rules, text)

pub returns-in_err-n : goal.returns-in_err-n
returns-in_err-n c =
    let parsed = parse_digits numerals 16 c.args.digits.now c.parse.result (search rules) c.requires.1 in
    grind (arith, common_steps, parsed, c.requires)

pub returns : goal.returns
returns c =
    let parsed = parse_digits numerals 16 c.args.digits.now c.parse.result (search rules) c.requires.1 in
    grind (arith, common_steps, parsed, c.requires)
