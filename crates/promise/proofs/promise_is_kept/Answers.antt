use Rattle.promise.proofs.Keeping.{clear_runs, guarded_runs}
use Rattle.promise.proofs.promise_is_kept.Goals as goal

pub returns : goal.returns
returns g c labels reader rows valid =
    let K = g.L.Label.kind in
    let laws = g.L.Label.lawful in
    record {
      clear = λ passes B ws vs p q size agree. clear_runs K laws labels reader rows valid passes.0 passes.1 passes.2 B ws vs p q size agree;
      guarded = λ passes B ws vs p q size agree plain.
          guarded_runs K laws labels reader rows valid passes.0 passes.1 passes.2 ws vs plain B p q size agree;
    }
