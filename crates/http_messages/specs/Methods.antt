-- The names of methods (RFC 9110 section 9.1, RFC 5789 for PATCH). Case counts.
use Rattle.std.specs.Prelude.{ℕ, List, codes}
use Rattle.http_messages.specs.declared.method.Method.{Method}
use Rattle.http_messages.specs.declared.method.Method.TheVariants.{Get, Put, Post, Patch, Delete}

abbrev pub method_name : Method → List ℕ
method_name Get = codes "GET"
method_name Put = codes "PUT"
method_name Post = codes "POST"
method_name Patch = codes "PATCH"
method_name Delete = codes "DELETE"
