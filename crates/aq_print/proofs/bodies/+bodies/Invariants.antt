use Rattle.std.proofs.Common.{◌≡◌, [], ◌∷◌, ◌++◌, take}
use Rattle.std.specs.List.{flat_map}
use Rattle.aq_lex.specs.declared.token.Symbol.TheVariants.{Semicolon}
use Rattle.aq_texts.specs.Written.{Mark}
use Rattle.aq_texts.specs.Canon.{body_statement, else_if, handler}
use Rattle.aq_print.specs.Printing.{put_all}
use Rattle.aq_print.proofs.bodies.+bodies.Given as goal

abbrev pub invariant-block-loop-statement : goal.invariant-block-loop-statement
invariant-block-loop-statement l =
    l.printer ≡ put_all l.fn.printer (flat_map (λ s. body_statement s ++ Mark Semicolon ∷ []) (take l.statement-index l.statement-items))

abbrev pub invariant-else_ifs-loop-branch : goal.invariant-else_ifs-loop-branch
invariant-else_ifs-loop-branch l = l.printer ≡ put_all l.fn.printer (flat_map else_if (take l.branch-index l.branch-items))

abbrev pub invariant-each_handler-loop-h : goal.invariant-each_handler-loop-h
invariant-each_handler-loop-h l = l.printer ≡ put_all l.fn.printer (flat_map handler (take l.h-index l.h-items))
