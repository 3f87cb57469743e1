-- Addresses of the loopback interface.
use Rattle.std.specs.Prelude.{◌≡◌, ◌⊎◌, [], ◌∷◌, List, ℕ}
use Rattle.std.specs.Net.Addr.{HasPrefix, ipv4_octets, ipv6_octets, IsLoopbackV4, IsLoopbackV6}
use Rattle.std.specs.Net.Socket.{v4_ip, v6_ip}
use Rattle.std.specs.declared.net.socket_addr.SocketAddr.{SocketAddr}
use Rattle.std.specs.declared.net.socket_addr.SocketAddr.TheVariants.{V4, V6}

-- the address is 127.0.0.1, with any port
abbrev pub IsOfLoopback : SocketAddr → Type 0
IsOfLoopback (V4 a) = ipv4_octets (v4_ip a) ≡ 127 ∷ 0 ∷ 0 ∷ 1 ∷ []
IsOfLoopback (V6 a) = ⊥

-- the first thirteen octets of ::ffff:127.0.0.0/104
abbrev pub mapped_127 : List ℕ
mapped_127 = 0 ∷ 0 ∷ 0 ∷ 0 ∷ 0 ∷ 0 ∷ 0 ∷ 0 ∷ 0 ∷ 0 ∷ 255 ∷ 255 ∷ 127 ∷ []

-- nobody on another machine can reach the address: it is in 127.0.0.0/8, ::1, or in ::ffff:127.0.0.0/104
abbrev pub LeadsBack : SocketAddr → Type 0
LeadsBack (V4 a) = IsLoopbackV4 (v4_ip a)
LeadsBack (V6 a) = IsLoopbackV6 (v6_ip a) ⊎ HasPrefix (ipv6_octets (v6_ip a)) mapped_127
