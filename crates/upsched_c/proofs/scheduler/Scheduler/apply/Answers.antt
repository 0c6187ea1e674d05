use Rattle.upsched_c.proofs.Bodies.{fits_if_ok}
use Rattle.upsched_c.proofs.scheduler.Scheduler.apply.Goals as goal

pub returns-clause-fits : goal.returns-clause-fits
returns-clause-fits c = fits_if_ok c.apply.result c.maps_are_bodies_from.ensures c.self.inside.machine c.args.command c.self.invariant c.fits.ensures c.apply.ensures.output
