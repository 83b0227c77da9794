use Rattle.std.proofs.Common.{arith, ◌≡◌, length}
use Rattle.kvtree.proofs.Children.{encoding-entries_of}
use Rattle.kvtree.proofs.tree.Tree.+write.Goals as goal

pub loop-child-init : goal.loop-child-init
loop-child-init t c =
    let count : c.len.result ≡ length c.self.inside.children.items = omega arith in
    rw (c.in_ok-put_u32.ensures, ← c.self.view_is, c.deref-child-items.ensures.value) (encoding-entries_of c.args.out.now.items c.len.result c.self.inside.children.items count)
