-- Columns that stand twice in a CREATE TABLE.
use Rattle.std.proofs.Common.{◌≡◌, ℕ, ◌+◌, ◌<◌, List, [], ◌++◌, length, map, drop, get_or, ap, sym, ◌∙◌, subst, append_assoc}
use Rattle.std.specs.List.{flat_map}
use Rattle.aq_base.specs.Names.{Text}
use Rattle.aq_base.specs.declared.fault.SqlFault.{SqlFault}
use Rattle.aq_base.specs.declared.table.TableItem.{TableItem}
use Rattle.aq_setup.specs.Constraints.{of_item}
use Rattle.aq_refusals.specs.Faults.{column_twice}
use Rattle.aq_setup.specs.Scopes.{repeats_behind}
use Rattle.aq_setup.specs.Tables.{item_columns, items_twice, listed_twice}
use Rattle.aq_refusals.specs.declared.fault.CatFault.{CatFault}
use Rattle.aq_refusals.specs.Answers.{IsFault}
use Rattle.aq_refusals.proofs.Telling.{first_stays}
use Rattle.aq_refusals.proofs.Loops.{drop_here}

abbrev names_in : TableItem → List Text
names_in item = map (λ col. col.name) (item_columns item)

-- the faults of the item at hand are the first of all
pub items_told : (before : List Text) (items : List TableItem) (i : ℕ) (x : TableItem) (e : CatFault) → i < length items → x ≡ get_or items i x → items_twice before (drop i items) ≡ items_twice [] items → IsFault (map column_twice (repeats_behind before (map (λ col. col.name) (item_columns x))) ++ flat_map listed_twice (of_item x)) e → IsFault (items_twice [] items) e
items_told before items i x e within is left told =
    let a : List SqlFault = map column_twice (repeats_behind before (names_in x)) in
    let b : List SqlFault = flat_map listed_twice (of_item x) in
    let rest : List SqlFault = items_twice (before ++ names_in x) (drop (i + 1) items) in
    subst (λ l. IsFault l e)
    (append_assoc a b rest ∙ sym (ap (items_twice before) (drop_here items i x within is)) ∙ left)
    (first_stays (a ++ b) rest e told)
