-- `one_on_top` meets its contract: a leaf of eight bytes, or a record that ends where its list does. By the ways of `top_ok`. Assumes nothing.
use Rattle.proper.proofs.Top.{top_cut}
use Rattle.proper.proofs.one_on_top.Goals as goal

pub returns-then-top-eq0 : goal.returns-then-top-eq0
returns-then-top-eq0 c =
    let cut = top_cut c.args.file.now c.args.starts c.requires.listed c.requires.rules c.args.top c.list_end-b.result c.requires.top_value c.list_end-b.ensures in
    cut.leaf c.if-top-eq0.true

pub returns-then-list-eq0 : goal.returns-then-list-eq0
returns-then-list-eq0 c =
    let cut = top_cut c.args.file.now c.args.starts c.requires.listed c.requires.rules c.args.top c.list_end-b.result c.requires.top_value c.list_end-b.ensures in
    cut.none c.if-list-eq0.true

pub width-requires : goal.width-requires
width-requires c =
    let cut = top_cut c.args.file.now c.args.starts c.requires.listed c.requires.rules c.args.top c.list_end-b.result c.requires.top_value c.list_end-b.ensures in
    cut.whole c.if-top-eq0.false c.if-list-eq0.false

pub returns : goal.returns
returns c =
    let cut = top_cut c.args.file.now c.args.starts c.requires.listed c.requires.rules c.args.top c.list_end-b.result c.requires.top_value c.list_end-b.ensures in
    cut.inner c.if-top-eq0.false c.if-list-eq0.false c.width.result c.width.ensures.0
