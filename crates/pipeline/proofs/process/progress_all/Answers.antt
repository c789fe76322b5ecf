use Rattle.pipeline.specs.Pipeline.{progress_at, progress_all}
use Rattle.pipeline.proofs.process.progress_all.Goals as goal

pub returns : goal.returns
unfolding progress_all progress_at
returns c = c.change_all.ensures
