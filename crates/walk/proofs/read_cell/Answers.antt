use Rattle.walk.proofs.FilesDecide.{cell_start}
use Rattle.walk.proofs.read_cell.Goals as goal

pub returns : goal.returns
returns g c = cell_start c.read_start-length.result c.read_start-length.new.start c.read_start-length.auto.start c.read_cell.ensures
