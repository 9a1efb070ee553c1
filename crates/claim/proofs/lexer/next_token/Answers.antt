use Rattle.std.proofs.Common.{◌==◌, sym, ap, ◌∙◌, rules, arith}
use Rattle.std.specs.Char.{is_ascii_digit}
use Rattle.claim.specs.Tokens.{class}
use Rattle.claim.proofs.Lexing.{past_spaces, no_space, lexed_mark, lexed_name, lexed_end}
use Rattle.claim.proofs.lexer.next_token.Goals as goal

pub class_of-requires : goal.class_of-requires
class_of-requires c =
    let at = c.in-Some.ensures.lookup.3 in
    λ e. no_space _ _ _ (c.leading.ensures.count (λ byte. byte == 32) (λ b r k. search rules)) at.0 (sym (at.1 0) ∙ e)

pub returns-in_default : goal.returns-in_default
returns-in_default c = lexed_end _ _ _ (omega arith) (omega arith) c.in_default.ensures.lookup.3 (past_spaces _ _ _ (c.leading.ensures.count (λ byte. byte == 32) (λ b r k. search rules)))

pub returns-in-Mark : goal.returns-in-Mark
returns-in-Mark c =
    let at = c.in-Some.ensures.lookup.3 in
    lexed_mark _ _ _ (omega arith) at.0 (past_spaces _ _ _ (c.leading.ensures.count (λ byte. byte == 32) (λ b r k. search rules))) _ (c.in-Mark.ensures ∙ ap class (at.1 0))

pub returns-in-Letter : goal.returns-in-Letter
returns-in-Letter c =
    let at = c.in-Some.ensures.lookup.3 in
    lexed_name _ _ _ (omega arith) at.0 (past_spaces _ _ _ (c.leading.ensures.count (λ byte. byte == 32) (λ b r k. search rules))) _ _ _ (c.in-Letter.ensures ∙ ap class (at.1 0)) (c.leading-in-Letter.ensures.count is_ascii_digit (λ b r k. search rules)) c.name.ensures
