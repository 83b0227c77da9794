use Rattle.std.proofs.Common.{◌≡◌, ◌≤◌, length, sym, subst, arith, IsTrue}
use Rattle.scr_base.specs.Words.{is_name}
use Rattle.filemap.specs.Rows.{IsRow, IsRows, place_of}
use Rattle.filemap.specs.declared.rows.FileRow.{FileRow}
use Rattle.filemap.proofs.RowLaws.{rows_push}
use Rattle.filemap.proofs.rows.Rows.route.Goals as goal

pub invariant_of-self-2 : goal.invariant_of-self-2
invariant_of-self-2 c =
    let row : FileRow = record { name = c.in_ok-copy.field-0; len = 0 } in
    let named : IsTrue (is_name c.in_ok-copy.field-0) = rw c.in_ok-copy.ensures c.bytes.ensures.name in
    let is_row : IsRow row = record { named = named; short = omega arith } in
    let place : c.place_of-place.result ≡ place_of c.self.inside.rows.items c.args.name.now = rw (← c.deref.ensures.value, ← c.bytes.ensures.value) c.place_of-place.ensures.place in
    let far : length c.self.inside.rows.items ≤ place_of c.self.inside.rows.items c.args.name.now = omega arith in
    let new : length c.self.inside.rows.items ≤ place_of c.self.inside.rows.items c.in_ok-copy.field-0 = rw c.in_ok-copy.ensures far in
    subst IsRows (sym c.in_ok-push.ensures.items) (rows_push c.self.inside.rows.items row c.self.invariant (omega arith) is_row new)
