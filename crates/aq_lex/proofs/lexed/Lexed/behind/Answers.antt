use Rattle.std.proofs.Common.{drop, ap, sym, ◌∙◌}
use Rattle.std.proofs.lemmas.List.{drop-map}
use Rattle.aq_lex.specs.Lexemes.{placed, lexemes}
use Rattle.aq_lex.proofs.lexed.Lexed.behind.Goals as goal

pub returns : goal.returns
returns c =
    let bytes = c.self.inside.bytes.now in
    ap (lexemes bytes) c.tokens_behind-others.ensures ∙ (sym (drop-map (placed bytes) c.args.count c.self.inside.tokens.now) ∙ ap (drop c.args.count) c.self.view_is)
