-- The integers of a row.
use Rattle.std.specs.Prelude.{List, ℤ, take}
use Rattle.face_vectors.specs.declared.row.Row.{Row}

abbrev pub entries : Row → List ℤ
entries r = take r.len r.at
