-- Parts of the rules of functions that have a function of their own.
use Rattle.std.specs.Prelude.{[], ◌∷◌, codes}
use Rattle.aq_base.specs.Names.{Text as Bytes}
use Rattle.aq_base.specs.declared.body.Body.{Body}
use Rattle.aq_grammar.specs.Terminals.{Keyword}
use Rattle.aq_grammar.specs.Rules.{Rule, Either}
use Rattle.aq_grammar.specs.Forms.{word, ◌▸◌, ◌◂◌, public_name}
use Rattle.aq_grammar.specs.Bodies.{code}
use Rattle.aq_grammar.specs.Triggers.{no_arguments, language}

-- a function's name, with what it takes and gives
abbrev pub function_head : Rule Bytes
function_head = public_name ◂ no_arguments ◂ word (codes "returns") ◂ word (codes "trigger")

-- a function's code, with its language before or behind it
abbrev pub function_body : Rule Body
function_body = Either (Keyword (codes "language") ∷ []) (language ▸ word (codes "as") ▸ code) (word (codes "as") ▸ code ◂ language)
