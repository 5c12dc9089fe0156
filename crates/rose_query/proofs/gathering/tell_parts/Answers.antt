use Rattle.std.proofs.Common.{◌∙◌, All, ap, subst}
use Rattle.std.proofs.lemmas.Result.{IfOk-weaker}
use Rattle.rose_operators.specs.Results.{IsAscending}
use Rattle.rose_query.specs.Replies.{parts_reply}
use Rattle.rose_query.proofs.gathering.tell_parts.Goals as goal

-- the parts that are found are listed
pub returns : goal.returns
returns c =
    IfOk-weaker c.list_parts.result _ _
    (λ reply lists. record {
      parts = c.in_ok-parts.parts.items;
      are_parts = c.in_ok-parts.ensures.parts;
      ascending = subst (All IsAscending) c.deref.ensures.value lists.0;
      reply_is = lists.1 ∙ ap parts_reply c.deref.ensures.value;
    })
    c.list_parts.ensures
