use Rattle.std.proofs.Common.{ℕ, List, Option, ◌==◌, slice_get, is_some, sym, ap, ◌∙◌}
use Rattle.std.specs.List.{list_any}
use Rattle.aq_base.specs.declared.catalog.UniqueKey.{UniqueKey}
use Rattle.aq_catalog.specs.Catalogs as catalogs
use Rattle.aq_catalog.specs.Catalogs.{has_primary}
use Rattle.aq_catalog.specs.Indexed.{passes}
use Rattle.aq_catalog.proofs.Passing.{any_at_numbers}
use Rattle.aq_catalog.proofs.lookups.has_primary.Goals as goal

pub returns-in-Some : goal.returns-in-Some
returns-in-Some c =
    let table = c.in-Some.table in
    let keys = c.catalog.inside.keys.items in
    c.has_key_of.ensures
    ∙ ap (λ (l : List UniqueKey). list_any (λ n. passes (λ key. key.table == table) (slice_get l n)) c.as_slice-in-Some.result.now) c.as_slice.ensures.value
    ∙ ap (list_any (λ n. passes (λ (key : UniqueKey). key.table == table) (slice_get keys n))) c.as_slice-in-Some.ensures.value
    ∙ sym (any_at_numbers (λ entry. entry.1.cols) (λ (key : UniqueKey). key.table == table) c.catalog.inside.primaries.items keys)
    ∙ ap (λ cat. is_some (catalogs.primary_cols cat table)) c.catalog.view_is
    ∙ ap (λ (at : Option ℕ). has_primary c.args.catalog.now at) (sym c.in-Some.is)
