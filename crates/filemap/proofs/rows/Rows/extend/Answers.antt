use Rattle.std.proofs.Common.{◌<◌, length}
use Rattle.filemap.proofs.Extended.{extended_is}
use Rattle.filemap.proofs.rows.Rows.extend.Goals as goal

pub returns : goal.returns
returns c =
    let there : c.args.file < length c.self.inside.rows.items = rw c.self.view_is c.requires.there in
    rw (c.max-row.ensures, ← c.self.view_is) (extended_is c.self.inside.rows.items c.args.file c.args.len c.index_mut-row.result.now there c.index_mut-row.ensures.value)
