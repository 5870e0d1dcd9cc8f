use Rattle.std.proofs.Common.{take, ap, sym, ◌∙◌}
use Rattle.std.proofs.lemmas.List.{take-map}
use Rattle.aq_lex.specs.Lexemes.{placed, lexemes}
use Rattle.aq_lex.proofs.lexed.Lexed.front.Goals as goal

pub returns : goal.returns
returns c =
    let bytes = c.self.inside.bytes.now in
    ap (lexemes bytes) c.first_tokens.ensures ∙ (sym (take-map (placed bytes) c.args.most c.self.inside.tokens.now) ∙ ap (take c.args.most) c.self.view_is)
