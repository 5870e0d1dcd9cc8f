use Rattle.aq_binder.proofs.binding.bound_source.Goals as goal

pub returns-in-Query : goal.returns-in-Query
returns-in-Query c = rw c.in-Query.is (rw (← c.query_scope.ensures) (rw (← c.as_slice-in-Query.ensures) c.bound_query.ensures))
