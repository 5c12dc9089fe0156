use Rattle.std.proofs.Common.{ap, ◌∙◌}
use Rattle.std.proofs.lemmas.Result.{IfOk-weaker}
use Rattle.rose_query.specs.Replies.{faces_reply}
use Rattle.rose_query.proofs.outlining.tell_region.Goals as goal

-- the faces that are found are listed
pub returns : goal.returns
returns c =
    IfOk-weaker c.list_faces.result _ _
    (λ reply is. record {
      ascending = c.segments-ascending.ensures.ascending;
      faces = c.in_ok-found.found.items;
      are_faces = c.in_ok-found.ensures;
      reply_is = is ∙ ap faces_reply c.deref.ensures.value;
    })
    c.list_faces.ensures
