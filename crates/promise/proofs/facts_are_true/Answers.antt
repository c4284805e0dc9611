use Rattle.promise.proofs.Keeping.{one_runs, all_hold}
use Rattle.promise.proofs.facts_are_true.Goals as goal

-- a machine beside itself keeps the relation, whoever reads
pub returns : goal.returns
returns g c labels rows valid table closed B ws p q size n =
    let K = g.L.Label.kind in
    let rel = one_runs K g.L.Label.lawful labels K.lowest rows valid table closed B ws p q size n in
    all_hold K g.L.Label.lawful labels K.lowest rows valid table closed _ _ _ _ rel.stacks
