use Rattle.chart.proofs.charting.SketchReporter.text.Goals as goal

pub returns : goal.returns
returns c = rw c.as_world.ensures at c.text-text.ensures
