use Rattle.std.proofs.Common.{◌≡◌, sym, ◌∙◌, arith, length-drop, Some}
use Rattle.std.proofs.lemmas.List.{take_rest}
use Rattle.aq_lex.specs.Tokens.{Starts}
use Rattle.aq_lex.specs.Lexing.{piece_at}
use Rattle.aq_lex.proofs.Running.{goes_on, no_token_at}
use Rattle.aq_lex.proofs.lexer.lex.Goals as goal

pub pieces-init : goal.pieces-init
pieces-init c = rw c.new-tokens.ensures (Starts, omega arith)

pub returns-in_default-piece_at-clause-fault : goal.returns-in_default-piece_at-clause-fault
returns-in_default-piece_at-clause-fault c =
    no_token_at c.args.bytes.now c.pieces.tokens (record { at = c.pieces.at; is_first = c.pieces.is_first }) c.in-Some.byte.now c.in-Some.field-0-1.now c.pieces.rest.now
    c.pieces.invariant.0 c.in-Some.ensures.cases.0 (sym c.piece_at.ensures.value ∙ c.in_default-piece_at.is)

pub pieces-preserved : goal.pieces-preserved
pieces-preserved c =
    let len = c.in-Some-piece_at.len in
    let rest = c.pieces.rest.now in
    let found : piece_at c.pieces.is_first rest ≡ Some (c.in-Some-piece_at.piece, len) = sym c.piece_at.ensures.value ∙ c.in-Some-piece_at.is in
    let on = goes_on c.args.bytes.now c.pieces.tokens (record { at = c.pieces.at; is_first = c.pieces.is_first }) c.in-Some.byte.now c.in-Some.field-0-1.now rest
    (c.in-Some-piece_at.piece, len) c.pieces.invariant.0 c.in-Some.ensures.cases.0 found in
    rw (take_rest rest len, c.is_first_behind-is_first.ensures, c.in_ok-add.ensures) (on.lexes, omega (arith, length-drop len rest, on.within, c.pieces.invariant.1))
