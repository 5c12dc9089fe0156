use Rattle.std.proofs.Common.{take_all, subst, sym}
use Rattle.realm_index.specs.Index.{Entries}
use Rattle.realm_insert.proofs.IndexKeys.{IsPutIn, put_in}
use Rattle.realm_insert.proofs.PutPieces.{puts_none, next_is_new, puts_next}
use Rattle.realm_insert.proofs.indexing.put_in_index.Goals as goal

pub loop-drawn-init : goal.loop-drawn-init
loop-drawn-init c = puts_none c.args.index.now

-- no key is listed twice
pub insert-requires : goal.insert-requires
insert-requires c = record {
  new_key = next_is_new c.args.list.now c.loop-drawn.drawn-index c.drawn-item.result c.args.index.now c.loop-drawn.index
      c.loop-drawn-test.true c.drawn-item.is c.loop-drawn.invariant c.requires.new_keys c.requires.once;
}

-- one piece more
pub loop-drawn-preserved : goal.loop-drawn-preserved
loop-drawn-preserved c =
    let list = c.args.list.now in
    let i = c.loop-drawn.drawn-index in
    let x = c.drawn-item.result in
    let old = c.args.index.now in
    let mid = c.loop-drawn.index in
    let new = c.insert.new.self in
    let within = c.loop-drawn-test.true in
    let none = next_is_new list i x old mid within c.drawn-item.is c.loop-drawn.invariant c.requires.new_keys
    c.requires.once in
    puts_next list i x old mid within c.drawn-item.is c.loop-drawn.invariant new none
    (subst (λ (m : Entries). IsPutIn mid m x.key x.piece) (sym c.in_ok-insert.ensures.ok) (put_in mid x.key x.piece))

-- at the end all were put in
pub returns : goal.returns
returns c = let past = c.loop-drawn-test.false in rw take_all at c.loop-drawn.invariant
